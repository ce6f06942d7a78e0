-- Walks up the superclasses and superinterfaces of a linked program come to their end within the bound: the classes on a way
-- up differ, and there are fewer than the bound.
use Rattle.std.proofs.Common.{◌≡◌, ℕ, zero, suc, ◌+◌, ◌≤◌, List, [], ◌∷◌, ◌++◌, length, true, false, nat_eq, eqb, refl, sym, ◌∙◌, ap, subst, inl, inr, arith, All}
use Rattle.std.specs.Prelude.{flat_map}
use Rattle.std.specs.List.{IsDistinct}
use Rattle.std.proofs.lemmas.Bool.{eqb-true, eq-eqb, false_from_ne_true, or_cases, or_right}
use Rattle.std.proofs.lemmas.Map.Steps.{length-le_from_distinct_below}
use Rattle.jvm_model.specs.{declared.program.Program.Program, Classes.class_at, Classes.class_bound, Classes.member, Classes.lineage_in, Lookup.pedigree_in}
use Rattle.jvm_model.specs.Linked.{IsClass, IsDirect, IsAncestor, direct, further, Linked}
use Rattle.jvm_model.proofs.Upwards.{superclass_is, all_apart}

-- what holds of each entry holds of each member
pub all_member : (P : ℕ → Type 0) (xs : List ℕ) → All P xs → (d : ℕ) → member d xs ≡ true → P d
all_member P [] h d m = absurd (cc)
all_member P (x ∷ xs) h d m = elim (or_cases (nat_eq d x) _ m) [
  | inl q ↦ subst P (sym (eqb-true d x q)) (h 0 0 (omega arith))
  | inr q ↦ all_member P xs (λ k e g. h (suc k) e (omega arith)) d q
]

-- two walks that agree at each member give the same list
same_flat : (f g : ℕ → List ℕ) (xs : List ℕ) → ((d : ℕ) → member d xs ≡ true → f d ≡ g d) → flat_map f xs ≡ flat_map g xs
same_flat f g [] h = refl
same_flat f g (x ∷ xs) h = let a : f x ≡ g x = h x (rw (eq-eqb x x refl) refl) in let b = same_flat f g xs (λ d m. h d (or_right (nat_eq d x) (member d xs) m)) in rw (a, b) refl

module _ (p : Program) where
  later : {a b c : ℕ} → IsAncestor p a b → IsDirect p b c → IsAncestor p a c
  later (direct d) e = further d (direct e)
  later (further d r) e = further d (later r e)

  -- a way up to c: the classes below differ, and c is an ancestor of each
  record Way (ws : List ℕ) (c : ℕ) : Type 0 where
    pub distinct : IsDistinct eqb (c ∷ ws)
    pub classes : (w : ℕ) → member w (c ∷ ws) ≡ true → IsClass p w
    pub ancestor : (w : ℕ) → member w ws ≡ true → IsAncestor p w c

  module _ (l : Linked p) where
    direct_class : (c d : ℕ) → IsClass p c → IsDirect p c d → IsClass p d
    direct_class c d h (inl e) = superclass_is p l c d h e
    direct_class c d h (inr e) = all_member (λ x. IsClass p x) (class_at p c).interfaces (l.numbers.classes c h).interfaces d e

    apart : (ws : List ℕ) (c d : ℕ) → Way ws c → IsDirect p c d → (y : ℕ) → member y (c ∷ ws) ≡ true → eqb d y ≡ false
    apart ws c d w e y m = false_from_ne_true (eqb d y) (λ t. elim (or_cases (nat_eq y c) _ m) [
      | inl q ↦ let a : IsAncestor p c d = direct e in l.acyclic c (subst (λ x. IsAncestor p c x) (eqb-true d y t ∙ eqb-true y c q) a)
      | inr q ↦ let a : IsAncestor p y d = later (w.ancestor y q) e in l.acyclic y (subst (λ x. IsAncestor p y x) (eqb-true d y t) a)
    ])

    distinct_more : (ws : List ℕ) (c d : ℕ) → Way ws c → IsDirect p c d → IsDistinct eqb (d ∷ c ∷ ws)
    unfolding IsDistinct
    distinct_more ws c d w e = (all_apart p l d (c ∷ ws) (apart ws c d w e), w.distinct)

    way_more : (ws : List ℕ) (c d : ℕ) → Way ws c → IsDirect p c d → Way (c ∷ ws) d
    way_more ws c d w e = record {
      distinct = distinct_more ws c d w e;
      classes = λ x m. (elim (or_cases (nat_eq x d) _ m) [
        | inl q ↦ subst (λ y. IsClass p y) (sym (eqb-true x d q)) (direct_class c d (w.classes c (rw (eq-eqb c c refl) refl)) e)
        | inr q ↦ w.classes x q
      ]);
      ancestor = λ x m. (elim (or_cases (nat_eq x c) _ m) [
        | inl q ↦ subst (λ y. IsAncestor p y d) (sym (eqb-true x c q)) (direct e)
        | inr q ↦ later (w.ancestor x q) e
      ]);
    }

    way_short : (ws : List ℕ) (c : ℕ) → Way ws c → suc (length ws) ≤ length p.classes
    way_short ws c w = length-le_from_distinct_below (c ∷ ws) (length p.classes) w.distinct (λ q m. w.classes q m)

    module _ {A : Type 0} (walk : ℕ → ℕ → A) (same : (k m c : ℕ) → ((d : ℕ) → IsDirect p c d → walk k d ≡ walk m d) → walk (suc k) c ≡ walk (suc m) c) where
      steady : (ws : List ℕ) (k c : ℕ) → Way ws c → length p.classes ≤ length ws + k → walk (suc k) c ≡ walk k c
      steady ws zero c w h = let b = way_short ws c w in absurd (omega arith)
      steady ws (suc k) c w h = same (suc k) k c (λ d e. steady (c ∷ ws) k d (way_more ws c d w e) (omega arith))

    start : (c : ℕ) → IsClass p c → Way [] c
    unfolding IsDistinct
    start c h = record {
      distinct = (tt, tt);
      classes = λ x m. (elim (or_cases (nat_eq x c) _ m) [
        | inl q ↦ subst (λ y. IsClass p y) (sym (eqb-true x c q)) h
        | inr q ↦ absurd (cc)
      ]);
      ancestor = λ x m. absurd (cc);
    }

    -- a walk under the bound is a walk under one less
    bounded : {A : Type 0} (walk : ℕ → ℕ → A) → ((k m c : ℕ) → ((d : ℕ) → IsDirect p c d → walk k d ≡ walk m d) → walk (suc k) c ≡ walk (suc m) c) →
        (k c : ℕ) → length p.classes ≤ k → IsClass p c → walk (suc k) c ≡ walk k c
    bounded walk same k c b h = steady walk same [] k c (start c h) (omega arith)

  lineage_same : (k m c : ℕ) → ((d : ℕ) → IsDirect p c d → lineage_in p k d ≡ lineage_in p m d) → lineage_in p (suc k) c ≡ lineage_in p (suc m) c
  lineage_same k m c h = ap (λ xs. xs ++ (c ∷ [])) (same_flat (λ j. lineage_in p k j) (λ j. lineage_in p m j) (class_at p c).interfaces (λ d e. h d (inr e)))

  pedigree_same : (k m c : ℕ) → ((d : ℕ) → IsDirect p c d → pedigree_in p k d ≡ pedigree_in p m d) → pedigree_in p (suc k) c ≡ pedigree_in p (suc m) c
  pedigree_same k m c h = ap {B = List ℕ} (λ xs. c ∷ xs) (same_flat (λ j. pedigree_in p k j) (λ j. pedigree_in p m j) (class_at p c).interfaces (λ d e. h d (inr e)))

  module _ (l : Linked p) where
    -- one step of each walk, at the bound
    pub lineage_step : (c : ℕ) → IsClass p c → lineage_in p class_bound c ≡ flat_map (λ j. lineage_in p class_bound j) (class_at p c).interfaces ++ (c ∷ [])
    unfolding class_bound
    lineage_step c h = let b = l.few_classes in lineage_same 1199 1200 c (λ d e. sym (bounded l (lineage_in p) lineage_same 1199 d (omega arith) (direct_class l c d h e)))

    pub pedigree_step : (c : ℕ) → IsClass p c → pedigree_in p class_bound c ≡ c ∷ flat_map (λ j. pedigree_in p class_bound j) (class_at p c).interfaces
    unfolding class_bound
    pedigree_step c h = let b = l.few_classes in pedigree_same 1199 1200 c (λ d e. sym (bounded l (pedigree_in p) pedigree_same 1199 d (omega arith) (direct_class l c d h e)))
