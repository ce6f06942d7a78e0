use Rattle.std.proofs.Common.{◌≡◌, ◌∷◌, [], List, length, fold, refl, sym, ap, ◌∙◌, arith}
use Rattle.std.specs.Vec.Iter.{into_iter_items}
use Rattle.suite_load.specs.{declared.suite_text.SuiteText.SuiteText, SuiteForm.added, SuiteForm.suite_from}
use Rattle.suite_load.proofs.suite_reading.suite_from.Goals as goal

nothing_left : {X : Type 0} (l : List X) → length l ≡ 0 → l ≡ []
nothing_left [] h = refl
nothing_left (x ∷ xs) h = absurd (omega arith)

pub loop-line-preserved : goal.loop-line-preserved
loop-line-preserved c =
    let at = c.loop-line in
    let left = into_iter_items c.next.new.self in
    let steps : into_iter_items at.line-iterator ≡ c.in-Some.line ∷ left = c.in-Some.ensures.steps.0 in (
      ap (λ (s : SuiteText). fold added s left) c.in_ok-suite.ensures ∙ sym (ap (fold added at.suite) steps) ∙ at.invariant.0,
      let was = at.invariant.1 in
          let gone = c.in-Some.ensures.steps.1 in
          let short = ap length steps in
          omega arith,
    )

pub returns : goal.returns
unfolding suite_from
returns c =
    let at = c.loop-line in
    let none = c.in-None.ensures.steps in
    let empty : into_iter_items at.line-iterator ≡ [] = nothing_left _ (sym at.invariant.1 ∙ none.0) in
    sym (ap (fold added at.suite) empty) ∙ at.invariant.0
