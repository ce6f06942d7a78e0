-- Which classes a pool names, in rising order.
use Rattle.std.proofs.Common.{◌≡◌, ◌≢◌, ◌⊎◌, ℕ, ◌+◌, ◌-◌, ◌<◌, ◌≤◌, Bool, true, false, ◌||◌, cond, List, [], ◌∷◌, ◌++◌, length, nat_eq, slice_index_or, slice_set, Option, Some, None, refl, sym, ap, ◌∙◌, subst, inl, inr, arith}
use Rattle.std.proofs.{Math.Bool.or-true, Math.Bool.or-false, lemmas.List.Elements.filter-append, lemmas.List.Folds.list_any-append}
use Rattle.std.proofs.lemmas.Bool.{cases_Bool, eqb-true, eqb-false, ne_eqb}
use Rattle.std.specs.Prelude.{filter}
use Rattle.std.specs.{Option.option_to_list, List.range_with_len}
use Rattle.std.proofs.lemmas.List.{append-nil, get_or-set_same, get_or-set_other, length-set}
use Rattle.jvm_model.specs.{Builtin.builtin_count, Classes.member}
use Rattle.et_base.proofs.Ranges.{range_more}
use Rattle.class_link.specs.Marks.{Lists}

-- ---- a number more is listed

listed_more : (i j : ℕ) (is : List ℕ) → member j (is ++ i ∷ []) ≡ (member j is || nat_eq j i)
listed_more i j is = list_any-append (nat_eq j) is (i ∷ []) ∙ ap (λ b. member j is || b) (or-false (nat_eq j i))

set_at : (table : List Bool) (i j : ℕ) (is : List ℕ) → i < length table → slice_index_or table j false ≡ member j is → slice_index_or (slice_set table i true) j false ≡ member j (is ++ i ∷ [])
set_at table i j is h e = elim (cases_Bool (nat_eq j i)) [
  | inl t ↦ let same : j ≡ i = eqb-true j i t in subst (λ k. slice_index_or (slice_set table i true) k false ≡ member j (is ++ i ∷ [])) (sym same) (get_or-set_same table i true false h ∙ sym (listed_more i j is ∙ ap (λ b. member j is || b) t ∙ or-true (member j is)))
  | inr f ↦ get_or-set_other table i j true false (eqb-false j i f) ∙ e ∙ sym (listed_more i j is ∙ ap (λ b. member j is || b) f ∙ or-false (member j is))
]

pub lists_more : (table : List Bool) (n i : ℕ) (is : List ℕ) → i < length table → Lists table n is → Lists (slice_set table i true) n (is ++ i ∷ [])
lists_more table n i is h l = record {
  size = length-set table i true ∙ l.size;
  each = λ j g. set_at table i j is h (l.each j g);
}

-- one that is too large for the table
pub lists_past : (table : List Bool) (n i : ℕ) (is : List ℕ) → length table ≤ i → Lists table n is → Lists table n (is ++ i ∷ [])
lists_past table n i is h l = record {
  size = l.size;
  each = λ j g. let size = l.size in let other : j ≢ i = λ e. omega (arith, e, g, h, size) in l.each j g ∙ sym (listed_more i j is ∙ ap (λ b. member j is || b) (ne_eqb j i other) ∙ or-false (member j is));
}

-- none
pub lists_none : (table : List Bool) (n : ℕ) (is : List ℕ) (o : Option ℕ) → ((i : ℕ) → o ≢ Some i) → Lists table n is → Lists table n (is ++ option_to_list o)
lists_none table n is None other h = subst (λ js. Lists table n js) (sym (append-nil is)) h
lists_none table n is (Some i) other h = absurd (other i refl)

-- ---- the given classes so far

abbrev so_far : (ℕ → Bool) → ℕ → List ℕ
so_far f class = filter f (range_with_len builtin_count (class - builtin_count))

more_numbers : (class : ℕ) → builtin_count ≤ class → range_with_len builtin_count ((class + 1) - builtin_count) ≡ range_with_len builtin_count (class - builtin_count) ++ class ∷ []
more_numbers class h = ap (range_with_len builtin_count) (omega (arith, h)) ∙ range_more builtin_count (class - builtin_count) class (omega (arith, h))

one_more : (f : ℕ → Bool) (class : ℕ) → builtin_count ≤ class → so_far f (class + 1) ≡ so_far f class ++ cond (f class) (class ∷ []) []
one_more f class h = ap (filter f) (more_numbers class h) ∙ filter-append f (range_with_len builtin_count (class - builtin_count)) (class ∷ [])

-- one that is listed
pub given_next : (f : ℕ → Bool) (class : ℕ) (xs : List ℕ) → builtin_count ≤ class → f class ≡ true → xs ≡ so_far f class → xs ++ class ∷ [] ≡ so_far f (class + 1)
given_next f class xs h t e = ap (λ ys. ys ++ class ∷ []) e ∙ sym (one_more f class h ∙ ap (λ b. so_far f class ++ cond b (class ∷ []) []) t)

-- one that isn't
pub not_given : (f : ℕ → Bool) (class : ℕ) (xs : List ℕ) → builtin_count ≤ class → f class ≡ false → xs ≡ so_far f class → xs ≡ so_far f (class + 1)
not_given f class xs h t e = e ∙ sym (one_more f class h ∙ ap (λ b. so_far f class ++ cond b (class ∷ []) []) t ∙ append-nil (so_far f class))

-- where the last number is reached
pub ends_at : (class end : ℕ) → (class ≡ builtin_count) ⊎ (class ≤ end) → end ≤ class → class - builtin_count ≡ end - builtin_count
ends_at class end (inl e) far = omega (arith, e, far)
ends_at class end (inr low) far = omega (arith, low, far)
