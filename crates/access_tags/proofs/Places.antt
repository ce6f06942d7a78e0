-- The locations of a list, each once.
use Rattle.std.proofs.Common.{◌≡◌, Bool, true, false, not, ◌||◌, ◌&&◌, List, [], ◌∷◌, filter, refl, sym, ◌∙◌, ap, inl, inr}
use Rattle.std.specs.List.{list_any}
use Rattle.std.proofs.lemmas.Bool.{cases_Bool, or_parts}
use Rattle.std.proofs.Math.Bool.{and-false}
use Rattle.jvm_model.specs.declared.values.Location.{Location}
use Rattle.jvm_model.specs.World.{same}
use Rattle.jvm_model.proofs.Locations.{same_true}
use Rattle.order_law.specs.OwnRecord.{first_places}
use Rattle.access_tags.specs.Cells.{Apart}
use Rattle.access_tags.proofs.Marks.{swap_same, same_self}

-- places differ
any_filter : (l m : Location) (ls : List Location) → list_any (same m) (filter (λ (n : Location). not (same l n)) ls) ≡ (not (same l m) && list_any (same m) ls)
any_filter l m [] = sym (and-false (not (same l m)))
any_filter l m (n ∷ ls) = elim (cases_Bool (same l n)) [
  | inl e ↦ rw e (any_filter l m ls ∙ same_here (same l m) (same m n) (list_any (same m) ls) (λ f. let q = same_true m n f in same_self l m (same_true l n e ∙ sym q)))
  | inr e ↦ rw e (ap (λ (b : Bool). same m n || b) (any_filter l m ls) ∙ other_here (same l m) (same m n) (list_any (same m) ls) (λ f. let q = same_true l m f in swap_same n m ∙ (ap (λ (x : Location). same n x) (sym q) ∙ (swap_same l n ∙ e))))
]
  where
    same_here : (a b c : Bool) → (b ≡ true → a ≡ true) → (not a && c) ≡ (not a && (b || c))
    same_here false true c f = let g = f refl in absurd (cc)
    same_here _ _ c f = refl

    other_here : (a b c : Bool) → (a ≡ true → b ≡ false) → (b || (not a && c)) ≡ (not a && (b || c))
    other_here true true c f = let g = f refl in absurd (cc)
    other_here _ _ c f = refl

pub any_first : (ls : List Location) (m : Location) → list_any (same m) (first_places ls) ≡ list_any (same m) ls
any_first [] m = refl
any_first (l ∷ ls) m = rw (any_filter l m (first_places ls)) (rw (any_first ls m) (rw (swap_same l m) (base (same l m) (list_any (same m) ls))))
  where
    base : (a b : Bool) → (a || (not a && b)) ≡ (a || b)
    base true b = refl
    base false b = refl

filter_none : (p : Location → Bool) (x : Location) (ls : List Location) → list_any (same x) ls ≡ false → list_any (same x) (filter p ls) ≡ false
filter_none p x [] e = e
filter_none p x (l ∷ ls) e = elim (cases_Bool (p l)) [
  | inl b ↦ let q = or_parts (same x l) _ e in rw b (rw q.0 (filter_none p x ls q.1))
  | inr b ↦ rw b (filter_none p x ls (or_parts (same x l) _ e).1)
]

filter_apart : (p : Location → Bool) (ls : List Location) → Apart same ls → Apart same (filter p ls)
filter_apart p [] d = d
filter_apart p (l ∷ ls) d = elim (cases_Bool (p l)) [
  | inl b ↦ rw b (filter_none p l ls d.0, filter_apart p ls d.1)
  | inr b ↦ rw b (filter_apart p ls d.1)
]

pub first_apart : (ls : List Location) → Apart same (first_places ls)
first_apart [] = tt
first_apart (l ∷ ls) = (any_filter l l (first_places ls) ∙ rw (same_self l l refl) refl, filter_apart (λ (n : Location). not (same l n)) (first_places ls) (first_apart ls))
