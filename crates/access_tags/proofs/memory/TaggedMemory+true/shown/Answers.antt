use Rattle.std.proofs.Common.{◌∙◌, ◌+◌, ◌<◌, ℕ, List, length, refl, sym, subst, arith}
use Rattle.jvm_model.specs.declared.values.Location.{Location}
use Rattle.order_law.specs.Pairing.{no_more}
use Rattle.access_tags.specs.{AreNames.AreNames, Ran.size_in, Ran.owner_by}
use Rattle.access_tags.proofs.FoundAll.{test_all, kept_all, count_by, positive, none_found, all_shown}
use Rattle.access_tags.proofs.memory.TaggedMemory+true.shown.Goals as goal

pub returns-then-self-eq0 : goal.returns-then-self-eq0
returns-then-self-eq0 c T f w =
    let p = c.args.p.now in
    rw c.new.ensures (rw (none_found p T (owner_by p T) (sym (test_all c.args.self.now T (length p.tests) f) ∙ c.if-self-eq0.true)) no_more)

pub returns : goal.returns
returns c T f w =
    let m = c.args.self.now in
    let p = c.args.p.now in
    let n = length p.tests in
    let ended = c.as_slice-ended.result.now in
    let h : 0 < n = subst (λ (k : ℕ). 0 < k) (test_all m T n f) (positive m.test c.if-self-eq0.false) in
    let a = kept_all m T n f c.as_slice-names.result.now ended c.in_ok-last.last c.as_slice-names.ensures.names c.as_slice-ended.ensures h c.in_ok-last.ensures in
    let made = c.in_ok-made.ensures (size_in T) refl (λ j x e. (a.each j x e).size) a.last.size in
    let count = count_by m T n f ended c.as_slice-ended.ensures h in
    let none : AreNames c.as_slice-names.result.now = subst (λ (ns : List Location). AreNames ns) (sym c.as_slice-names.ensures.names) c.as_slice-names.ensures.none in
    all_shown p T (length ended + 1) c.deref.result.now c.in_ok-shown.shown count (c.deref.ensures.value ∙ made) (c.in_ok-shown.ensures T a none w (omega (arith, count)))
