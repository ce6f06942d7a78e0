use Rattle.std.proofs.Common.{◌≡◌, ◌∙◌, ◌+◌, ◌<◌, ◌||◌, ◌&&◌, ℕ, List, true, false, get_or, length, take, nat_eq, refl, sym, ap, subst, arith, Bool}
use Rattle.std.specs.List.{list_any}
use Rattle.std.proofs.lemmas.List.{take_all}
use Rattle.jvm_model.specs.Classes.{class_at}
use Rattle.access_tags.specs.Given.{is_given}
use Rattle.access_tags.proofs.Closing.{closed_more, within_more, any_there}
use Rattle.access_tags.proofs.reached.Reached.close.Goals as goal

pub loop-next-preserved : goal.loop-next-preserved
loop-next-preserved c =
    let p = c.args.p.now in
    let s = c.loop-next.self in
    let cs = s.classes.items in
    let ds = c.add_all.new.self.classes.items in
    let n = c.loop-next.next in
    let class = c.index-class.result.now in
    let old : ℕ → Bool = λ i. get_or s.marks.items i false in
    let new : ℕ → Bool = λ i. get_or c.add_all.new.self.marks.items i false in
    let there : n < length cs = omega (arith, c.loop-next-test.true, c.len.ensures) in
    let first : take (n + 1) ds ≡ take (n + 1) cs = c.in_ok-add_all.ensures.first (n + 1) (omega (arith, there)) in
    let has = λ (e : length c.args.self.now.marks.items ≡ length p.classes) (i : ℕ). c.in_ok-add_all.ensures.has i
    ∙ (ap (λ (xs : List ℕ). old i || (list_any (nat_eq i) xs && is_given (length s.marks.items) i)) c.mentions.ensures
    ∙ ap (λ (m : ℕ). old i || (list_any (nat_eq i) (class_at p class).mentions && is_given m i)) (c.loop-next.invariant.count ∙ e)) in
    record {
      count = c.add_all.ensures.count ∙ c.loop-next.invariant.count;
      kept = λ i h. c.in_ok-add_all.ensures.has i ∙ rw (c.loop-next.invariant.kept i h) refl;
      closed = λ e. closed_more p cs ds n class old new there c.index-class.ensures first (has e) (c.loop-next.invariant.closed e);
      within = λ e. within_more p cs ds n class old new there c.index-class.ensures first (has e) (λ i. get_or c.args.self.now.marks.items i false)
          (sym (s.sound.listed class) ∙ any_there cs n class there c.index-class.ensures) (c.loop-next.invariant.within e);
    }

pub returns-clause-closed : goal.returns-clause-closed
returns-clause-closed c e i d h m g =
    let s = c.loop-next.self in
    let cs = s.classes.items in
    c.loop-next.invariant.closed e i d (subst (λ (xs : List ℕ). list_any (nat_eq i) xs ≡ true) (sym (take_all c.loop-next.next cs (omega (arith, c.loop-next-test.false, c.len.ensures)))) (s.sound.listed i ∙ h)) m g
