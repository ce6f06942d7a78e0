-- Answers that are kept.
use Rattle.std.proofs.Common.{◌≡◌, ℕ, ◌<◌, List, length, slice_get, get_or, set, replicate, nat_eq, sym, ◌∙◌, ap, subst, inl, inr, Option, Some, None, IfSome, get_or-set_other, get_or-set_same}
use Rattle.std.proofs.lemmas.{Bool.cases_Bool, Bool.eqb-true, Bool.eqb-false, Option.get_or_from_slice_get}
use Rattle.jvm_model.specs.declared.program.Program.{Program}
use Rattle.jvm_model.proofs.Ranges.{default_in}
use Rattle.vm_calls.specs.{declared.selections.Known.Known, Choices.IsKnown, Choices.AreKnown}

pub none_known : (p : Program) (n : ℕ) → AreKnown p (replicate n None)
none_known p n i = subst (λ (o : Option Known). IfSome o (λ k. IsKnown p k)) (sym (default_in n i None)) tt

-- one more answer is kept
pub known_more : (p : Program) (places : List (Option Known)) (i : ℕ) (k : Known) → i < length places → IsKnown p k → AreKnown p places → AreKnown p (set places i (Some k))
known_more p places i k l h f j = elim (cases_Bool (nat_eq j i)) [
  | inl e ↦ subst (λ (o : Option Known). IfSome o (λ x. IsKnown p x)) (sym (ap (λ n. get_or (set places i (Some k)) n None) (eqb-true j i e) ∙ get_or-set_same places i (Some k) None l)) h
  | inr e ↦ subst (λ (o : Option Known). IfSome o (λ x. IsKnown p x)) (sym (get_or-set_other places i j (Some k) None (eqb-false j i e))) (f j)
]

-- the answer that is kept at a place
pub known_here : (p : Program) (places : List (Option Known)) (i : ℕ) (k : Known) → AreKnown p places → slice_get places i ≡ Some (Some k) → IsKnown p k
known_here p places i k f e = subst (λ (o : Option Known). IfSome o (λ x. IsKnown p x)) (get_or_from_slice_get places i (Some k) None e) (f i)
