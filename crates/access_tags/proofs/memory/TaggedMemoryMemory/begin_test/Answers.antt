use Rattle.std.proofs.Common.{◌<◌, ◌++◌, ◌∙◌, List, [], ap, subst, sym, arith}
use Rattle.vm_mem.specs.Trace.{next_test}
use Rattle.access_tags.specs.declared.{ended.Ended.Ended, rows.Row.Row}
use Rattle.access_tags.specs.{Followed.Follows, Paths.HaveRowsWalks}
use Rattle.access_tags.proofs.Ending.{begun_first, begun_next, summed}
use Rattle.access_tags.proofs.memory.TaggedMemoryMemory.begin_test.Goals as goal

pub returns-then-self-eq0-clause-told : goal.returns-then-self-eq0-clause-told
returns-then-self-eq0-clause-told g c h ts f = begun_first c.args.self.now h ts c.args.test c.if-self-eq0.true f

pub returns-clause-told : goal.returns-clause-told
returns-clause-told g c h ts f =
    let m = c.args.self.now in
    let tags = c.end_test.new.self in
    let z : 0 < m.test = omega arith in
    let x : Ended = record { rows = c.end_test.new.rows; walks = c.in_ok-walks.walks; size = c.objects.result; alone = c.reads_static_alone-alone.result } in
    subst (λ (xs : List Ended). Follows (record m { ended = xs; tags = tags; test = c.args.test }) (next_test h ts c.args.test) []) (sym c.in_ok-push.ensures.pushed)
    (begun_next m x tags h ts c.args.test z
    (λ h ts T f e w. summed m x h ts T z
    (λ n T t us p by a b s. let r = c.in_ok-end_test.ensures.rows n T t us p by a b s in (r.0, r.1 ∙ ap (λ (xs : List Row). xs ++ r.0) c.new-rows.ensures, r.2))
    (λ us kept z k. subst (λ (xs : List Row). HaveRowsWalks us xs c.in_ok-walks.walks) c.as_slice.ensures (c.in_ok-walks.ensures us kept z k))
    c.objects.ensures c.reads_static_alone-alone.ensures f e w)
    (record { cells = c.in_ok-end_test.ensures.cells; named = c.in_ok-end_test.ensures.named }) c.in_ok-end_test.ensures.stands f)
