use Rattle.std.proofs.Common.{◌∙◌, ◌+◌, ◌<◌, ℕ, length, refl, sym, subst}
use Rattle.access_tags.specs.{Followed.keeps_walks, Ran.size_in, Ran.owner_by}
use Rattle.access_tags.proofs.FoundAll.{test_all, kept_all, count_by, positive, none_found, all_edges}
use Rattle.access_tags.proofs.memory.TaggedMemory.edges.Goals as goal

pub returns-then-self-eq0-clause-edges : goal.returns-then-self-eq0-clause-edges
returns-then-self-eq0-clause-edges g c T f =
    let p = c.args.p.now in
    rw c.new.ensures (sym (none_found p T (owner_by p T) (sym (test_all c.args.self.now T (length p.tests) f) ∙ c.if-self-eq0.true)))

pub returns-then-self-eq0-clause-printed : goal.returns-then-self-eq0-clause-printed
returns-then-self-eq0-clause-printed g c = rw c.new.ensures refl

pub returns-clause-edges : goal.returns-clause-edges
returns-clause-edges g c T f =
    let m = c.args.self.now in
    let p = c.args.p.now in
    let n = length p.tests in
    let ended = c.as_slice-ended.result.now in
    let h : 0 < n = subst (λ (k : ℕ). 0 < k) (test_all m T n f) (positive m.test c.if-self-eq0.false) in
    let a = kept_all m T n f c.as_slice-names.result.now ended c.in_ok-last.last c.as_slice-names.ensures.names c.as_slice-ended.ensures h c.in_ok-last.ensures in
    let made = c.in_ok-made.ensures (size_in T) refl (λ j x e. (a.each j x e).size) a.last.size in
    all_edges p T (length ended + 1) c.deref.result.now c.in_ok-edges.edges (count_by m T n f ended c.as_slice-ended.ensures h) (c.deref.ensures.value ∙ made) (c.in_ok-edges.ensures.edges (keeps_walks g.row.WALKS) T a)
