use Rattle.std.proofs.Common.{List, ◌++◌, ◌∙◌, ap, subst}
use Rattle.access_tags.specs.declared.rows.Row.{Row}
use Rattle.access_tags.specs.Paths.{HaveRowsWalks}
use Rattle.access_tags.proofs.Ending.{summed}
use Rattle.access_tags.proofs.memory.TaggedMemory.summary.Goals as goal

pub returns : goal.returns
returns g c h ts T f e w = summed c.args.self.now (record { rows = c.push_rows.new.rows; walks = c.in_ok-walks.walks; size = c.objects.result; alone = c.reads_static_alone.result }) h ts T c.requires
    (λ n T t us p by a b s. let r = c.in_ok-push_rows.ensures n T t us p by a b s in (r.0, r.1 ∙ ap (λ (xs : List Row). xs ++ r.0) c.new-rows.ensures, r.2))
    (λ us kept z k. subst (λ (xs : List Row). HaveRowsWalks us xs c.in_ok-walks.walks) c.as_slice.ensures (c.in_ok-walks.ensures us kept z k))
    c.objects.ensures c.reads_static_alone.ensures f e w
