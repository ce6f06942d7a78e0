-- A program whose superclasses and superinterfaces are among its classes has exactly one first cycle, or has none.
use Rattle.std.proofs.Common.{◌≡◌, ◌⊎◌, ℕ, zero, suc, ◌+◌, ◌<◌, ◌≤◌, List, [], ◌∷◌, ◌++◌, length, get_or, take, Bool, true, false, if◌then◌else◌, nat_eq, refl, ap, subst, inl, inr, arith, Option, Some, None}
use Rattle.std.specs.{List.IsDistinct, Cmp.nat_eq_equiv}
use Rattle.std.proofs.lemmas.{Bool.cases_lt, Bool.cases_order, Map.Keys.IsDistinct-push, Map.Steps.length-le_from_distinct_below}
use Rattle.indexmap.specs.IndexSet.{insert_key, insert_all}
use Rattle.jvm_model.specs.{declared.program.Program.Program, Builtin.builtin_count, Library.builtin_classes, Classes.member}
use Rattle.jvm_model.specs.Linked.{IsAncestor, direct, further}
use Rattle.member_lookup.specs.Ancestors.{directs, AreAncestors, IsFirstCycle}
use Rattle.member_lookup.proofs.Ancestry.{in_directs, Searches, searches_none, searches_more, searches_all, NoneBelow, none_builtin, none_more, none_all}

-- what stands directly above a class is among the classes
abbrev pub AreThere : Program → Type 0
AreThere p = (c d : ℕ) → member d (directs p c) ≡ true → d < length p.classes

-- ---- the search for ancestors ends

ancestor_there : (p : Program) (there : AreThere p) {c d : ℕ} → IsAncestor p c d → d < length p.classes
ancestor_there p there {c} {d} (direct h) = there c d (in_directs p c d h)
ancestor_there p there (further h a) = ancestor_there p there a

distinct_if : (b : Bool) (ks : List ℕ) (x : ℕ) → member x ks ≡ b → IsDistinct nat_eq ks → IsDistinct nat_eq (if b then ks else ks ++ x ∷ [])
distinct_if true ks x e d = d
distinct_if false ks x e d = IsDistinct-push nat_eq_equiv ks x d e

distinct_all : (ks xs : List ℕ) → IsDistinct nat_eq ks → IsDistinct nat_eq (insert_all nat_eq ks xs)
distinct_all ks [] d = d
distinct_all ks (x ∷ xs) d = distinct_all (insert_key nat_eq ks x) xs (distinct_if (member x ks) ks x refl d)

none_alike : IsDistinct nat_eq []
unfolding IsDistinct
none_alike = tt

search : (p : Program) → AreThere p → (c place more : ℕ) (keys : List ℕ) → Searches p c place keys → IsDistinct nat_eq keys → place + more ≡ length p.classes → (ds : List ℕ) × AreAncestors p c ds
search p there c place zero keys s d e =
    let few : length keys ≤ length p.classes = length-le_from_distinct_below keys (length p.classes) d (λ q m. ancestor_there p there (s.sound q m)) in
    (keys, searches_all p c place keys s (omega arith))
search p there c place (suc more) keys s d e = elim (cases_lt place (length keys)) [
  | inl h ↦ search p there c (place + 1) more (insert_all nat_eq keys (directs p (get_or keys place 0))) (searches_more p c place keys s h) (distinct_all keys (directs p (get_or keys place 0)) d) (omega arith)
  | inr h ↦ (keys, searches_all p c place keys s (omega arith))
]

ancestors_found : (p : Program) → AreThere p → (c : ℕ) → (ds : List ℕ) × AreAncestors p c ds
ancestors_found p there c = search p there c 0 (length p.classes) (insert_all nat_eq [] (directs p c)) (searches_none p c) (distinct_all [] (directs p c) none_alike) (omega arith)

-- ---- the first cycle

by_member : (p : Program) (c : ℕ) (ds : List ℕ) → AreAncestors p c ds → (b : Bool) → member c ds ≡ b → IsAncestor p c c ⊎ (IsAncestor p c c → ⊥)
by_member p c ds h true e = inl ((h c).0 e)
by_member p c ds h false e = inr (λ a. let m = (h c).1 a in cc)

own_ancestor : (p : Program) → AreThere p → (c : ℕ) → IsAncestor p c c ⊎ (IsAncestor p c c → ⊥)
own_ancestor p there c = let f = ancestors_found p there c in by_member p c f.0 f.1 (member c f.0) refl

first_from : (p : Program) → AreThere p → (i more : ℕ) → NoneBelow p (builtin_count + i) → length p.classes ≤ (builtin_count + i) + more → (cycle : Option ℕ) × IsFirstCycle p cycle
first_from p there i zero none h = (None, none_all p (builtin_count + i) (omega arith) none)
first_from p there i (suc more) none h = elim (own_ancestor p there (builtin_count + i)) [
  | inl a ↦ (Some i, (a, none))
  | inr f ↦
      let next : (builtin_count + i) + 1 ≡ builtin_count + (i + 1) = omega arith in
      first_from p there (i + 1) more (subst (NoneBelow p) next (none_more p (builtin_count + i) none f)) (omega arith)
]

-- there is a first cycle, or there is none
pub cycle_found : (p : Program) → take builtin_count p.classes ≡ builtin_classes → AreThere p → (cycle : Option ℕ) × IsFirstCycle p cycle
cycle_found p b there = first_from p there 0 (length p.classes) (none_builtin p b) (omega arith)

-- there is one alone
pub cycle_once : (p : Program) (a b : Option ℕ) → IsFirstCycle p a → IsFirstCycle p b → a ≡ b
cycle_once p None None x y = refl
cycle_once p None (Some j) x y = absurd (x (builtin_count + j) y.0)
cycle_once p (Some i) None x y = absurd (y (builtin_count + i) x.0)
cycle_once p (Some i) (Some j) x y = elim (cases_order i j) [
  | inl e ↦ ap (λ n. Some n) e
  | inr o ↦ elim o [
    | inl l ↦ absurd (y.1 (builtin_count + i) (omega arith) x.0)
    | inr l ↦ absurd (x.1 (builtin_count + j) (omega arith) y.0)
  ]
]
