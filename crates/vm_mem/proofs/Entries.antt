-- Entries by number.
use Rattle.std.proofs.Common.{◌≡◌, ℕ, suc, ◌<◌, List, [], ◌∷◌, ◌++◌, length, get_or, set, take, drop, nat_eq, true, refl, sym, ap, ◌∙◌, drop-cons}
use Rattle.std.proofs.lemmas.{Bool.eq-eqb, List.set_split}
use Rattle.jvm_model.specs.{declared.values.Value.Value, Classes.member, View.keys, World.keep}

-- what is kept where the first i entries haven't the number
pub record Passed (xs : List (ℕ × Value)) (i f : ℕ) (v : Value) : Type 0 where
  pub rest : keep nat_eq xs f v ≡ take i xs ++ keep nat_eq (drop i xs) f v
  pub there : member f (keys (drop i xs)) ≡ true

pub kept_at : (xs : List (ℕ × Value)) (i f : ℕ) (v : Value) (e : ℕ × Value) → i < length xs → Passed xs i f v → e ≡ get_or xs i e → f ≡ e.0 → set xs i (e.0, v) ≡ keep nat_eq xs f v
kept_at xs i f v e h p a b =
    let t : nat_eq f e.0 ≡ true = eq-eqb f e.0 b in
    let d : drop i xs ≡ e ∷ drop (suc i) xs = drop-cons xs i e h ∙ ap (λ x. x ∷ drop (suc i) xs) (sym a) in
    set_split xs i (e.0, v) h ∙ sym (p.rest ∙ ap (λ t. take i xs ++ keep nat_eq t f v) d ∙ rw t refl)
