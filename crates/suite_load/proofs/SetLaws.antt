-- A set of names seen as a list.
use Rattle.std.proofs.Common.{◌≡◌, ℕ, Bool, false, ◌||◌, cond, List, [], ◌∷◌, ◌++◌, map, refl, sym, ap, ◌∙◌}
use Rattle.std.specs.{List.list_any, Str.bytes_eq}
use Rattle.std.proofs.lemmas.List.{map-append}

-- a test of the items that a list is mapped to
pub any_map : {A B : Type 0} (f : A → B) (p : B → Bool) (xs : List A) → list_any p (map f xs) ≡ list_any (λ x. p (f x)) xs
any_map f p [] = refl
any_map f p (x ∷ xs) = ap (λ b. p (f x) || b) (any_map f p xs)

-- an inserted key whose name is new goes last
pub name_goes_last : {A : Type 0} (f : A → List ℕ) (ks : List A) (k : A) → list_any (bytes_eq (f k)) (map f ks) ≡ false
    → map f (cond (list_any (λ x. bytes_eq (f k) (f x)) ks) ks (ks ++ k ∷ [])) ≡ map f ks ++ f k ∷ []
name_goes_last f ks k new = rw (sym (any_map f (bytes_eq (f k)) ks) ∙ new) (map-append f ks (k ∷ []))
