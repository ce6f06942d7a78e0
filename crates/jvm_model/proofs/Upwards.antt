-- The superclasses of a linked program's classes: each chain comes to its end, as there are few classes and none is its own
-- ancestor.
use Rattle.std.proofs.Common.{◌≡◌, ℕ, zero, suc, ◌<◌, ◌≤◌, List, [], ◌∷◌, length, true, false, nat_eq, eqb, refl, sym, ◌∙◌, ap, subst, inl, inr, arith, Option, Some, None, IfSome}
use Rattle.std.specs.List.{IsDistinct, AllByRecursion}
use Rattle.std.proofs.lemmas.Bool.{eqb-true, false_from_ne_true, eq-eqb, or_cases, or_right}
use Rattle.std.proofs.lemmas.Map.Steps.{length-le_from_distinct_below}
use Rattle.jvm_model.specs.declared.program.Program.{Program}
use Rattle.jvm_model.specs.Classes.{class_at, class_bound, member, upwards_in, upwards, is_below}
use Rattle.jvm_model.specs.Linked.{IsClass, IsAncestor, direct, further, Linked}

-- the chain from a class upwards, where there is one
abbrev pub chain : Program → ℕ → Option ℕ → List ℕ
chain p k None = []
chain p k (Some d) = upwards_in p k d

module _ (p : Program) (l : Linked p) where
  pub superclass_is : (c d : ℕ) → IsClass p c → (class_at p c).superclass ≡ Some d → IsClass p d
  superclass_is c d h e = let q : IfSome (class_at p c).superclass (λ x. IsClass p x) = (l.numbers.classes c h).superclass in subst (λ o. IfSome o (λ x. IsClass p x)) e q

  member_above : (k e : ℕ) (o : Option ℕ) → IfSome o (λ x. IsClass p x) → ((d : ℕ) → IsClass p d → member e (upwards_in p k d) ≡ true → IsClass p e) → member e (chain p k o) ≡ true → IsClass p e
  member_above k e None h f m = absurd (cc)
  member_above k e (Some d) h f m = f d h m

  -- each member of the chain is a class
  pub member_class : (k c e : ℕ) → IsClass p c → member e (upwards_in p k c) ≡ true → IsClass p e
  member_class zero c e h m = absurd (cc)
  member_class (suc k) c e h m = elim (or_cases (nat_eq e c) _ m) [
    | inl q ↦ subst (λ x. IsClass p x) (sym (eqb-true e c q)) h
    | inr q ↦ member_above k e (class_at p c).superclass (l.numbers.classes c h).superclass (λ d g n. member_class k d e g n) q
  ]

  ancestor_above : (k c e : ℕ) (o : Option ℕ) → (class_at p c).superclass ≡ o → ((d : ℕ) → (class_at p c).superclass ≡ Some d → member e (upwards_in p k d) ≡ true → IsAncestor p c e) → member e (chain p k o) ≡ true → IsAncestor p c e
  ancestor_above k c e None q f m = absurd (cc)
  ancestor_above k c e (Some d) q f m = f d q m

  -- each member of the chain from a superclass is an ancestor
  chain_ancestor : (k c d e : ℕ) → (class_at p c).superclass ≡ Some d → member e (upwards_in p k d) ≡ true → IsAncestor p c e
  chain_ancestor zero c d e s m = absurd (cc)
  chain_ancestor (suc k) c d e s m = elim (or_cases (nat_eq e d) _ m) [
    | inl q ↦ subst (λ x. IsAncestor p c x) (sym (eqb-true e d q)) (direct (inl s))
    | inr q ↦ further (inl s) (ancestor_above k d e (class_at p d).superclass refl (λ g t n. chain_ancestor k d g e t n) q)
  ]

  pub all_apart : (c : ℕ) (xs : List ℕ) → ((y : ℕ) → member y xs ≡ true → eqb c y ≡ false) → AllByRecursion (λ y. eqb c y ≡ false) xs
  all_apart c [] f = tt
  all_apart c (x ∷ xs) f = (f x (rw (eq-eqb x x refl) refl), all_apart c xs (λ y m. f y (or_right (nat_eq y x) (member y xs) m)))

  apart_above : (k c y : ℕ) → member y (chain p k (class_at p c).superclass) ≡ true → eqb c y ≡ false
  apart_above k c y m = false_from_ne_true (eqb c y) (λ t.
      let a : IsAncestor p c y = ancestor_above k c y (class_at p c).superclass refl (λ d s n. chain_ancestor k c d y s n) m in
      l.acyclic c (subst (λ x. IsAncestor p c x) (sym (eqb-true c y t)) a))

  distinct_above : (k : ℕ) (o : Option ℕ) → ((d : ℕ) → IsDistinct eqb (upwards_in p k d)) → IsDistinct eqb (chain p k o)
  unfolding IsDistinct
  distinct_above k None f = tt
  distinct_above k (Some d) f = f d

  chain_distinct : (k c : ℕ) → IsDistinct eqb (upwards_in p k c)
  unfolding IsDistinct
  chain_distinct zero c = tt
  chain_distinct (suc k) c = (all_apart c (chain p k (class_at p c).superclass) (λ y m. apart_above k c y m), distinct_above k (class_at p c).superclass (λ d. chain_distinct k d))

  -- the chain is no longer than there are classes
  chain_short : (k c : ℕ) → IsClass p c → length (upwards_in p k c) ≤ length p.classes
  chain_short k c h = length-le_from_distinct_below (upwards_in p k c) (length p.classes) (chain_distinct k c) (λ q m. member_class k c q h m)

  stable_above : (k : ℕ) (o : Option ℕ) → ((d : ℕ) → length (upwards_in p k d) < k → upwards_in p (suc k) d ≡ upwards_in p k d) → length (chain p k o) < k → chain p (suc k) o ≡ chain p k o
  stable_above k None f h = refl
  stable_above k (Some d) f h = f d h

  -- a chain that has come to its end stays as it is
  chain_stable : (k c : ℕ) → length (upwards_in p k c) < k → upwards_in p (suc k) c ≡ upwards_in p k c
  chain_stable zero c h = absurd (omega arith)
  chain_stable (suc k) c h = ap {B = List ℕ} (λ xs. c ∷ xs) (stable_above k (class_at p c).superclass (λ d g. chain_stable k d g) (omega arith))

  chain_step : (k c d : ℕ) → length p.classes < k → IsClass p c → (class_at p c).superclass ≡ Some d → upwards_in p (suc k) c ≡ c ∷ upwards_in p (suc k) d
  chain_step k c d h g s =
      let b = chain_short k d (superclass_is c d g s) in
      ap (λ o. c ∷ chain p k o) s ∙ ap {B = List ℕ} (λ xs. c ∷ xs) (sym (chain_stable k d (omega arith)))

  -- the chain of a class is the class and the chain of its superclass
  pub upwards_step : (c d : ℕ) → IsClass p c → (class_at p c).superclass ≡ Some d → upwards p c ≡ c ∷ upwards p d
  unfolding class_bound
  upwards_step c d g s = let b = l.few_classes in chain_step 1199 c d (omega arith) g s

  pub upwards_root : (c : ℕ) → (class_at p c).superclass ≡ None → upwards p c ≡ c ∷ []
  unfolding class_bound
  upwards_root c s = ap (λ o. c ∷ chain p 1199 o) s

  member_step : (c d e : ℕ) → IsClass p c → (class_at p c).superclass ≡ Some d → member e (upwards p d) ≡ true → member e (upwards p c) ≡ true
  member_step c d e h s m = subst (λ xs. member e xs ≡ true) (sym (upwards_step c d h s)) (or_right (nat_eq e c) (member e (upwards p d)) m)

  trans_above : (k a b c : ℕ) (o : Option ℕ) → (class_at p a).superclass ≡ o → IsClass p a → ((d : ℕ) → IsClass p d → member b (upwards_in p k d) ≡ true → member c (upwards p d) ≡ true) → member b (chain p k o) ≡ true → member c (upwards p a) ≡ true
  trans_above k a b c None s h f m = absurd (cc)
  trans_above k a b c (Some d) s h f m = member_step a d c h s (f d (superclass_is a d h s) m)

  chain_trans : (k a b c : ℕ) → IsClass p a → member b (upwards_in p k a) ≡ true → member c (upwards p b) ≡ true → member c (upwards p a) ≡ true
  chain_trans zero a b c h m n = absurd (cc)
  chain_trans (suc k) a b c h m n = elim (or_cases (nat_eq b a) _ m) [
    | inl q ↦ subst (λ x. member c (upwards p x) ≡ true) (eqb-true b a q) n
    | inr q ↦ trans_above k a b c (class_at p a).superclass refl h (λ d g r. chain_trans k d b c g r n) q
  ]

  -- subclasses of subclasses are subclasses
  pub below_trans : (a b c : ℕ) → IsClass p a → is_below p a b ≡ true → is_below p b c ≡ true → is_below p a c ≡ true
  unfolding is_below
  below_trans a b c h m n = chain_trans class_bound a b c h m n

pub below_same : (p : Program) (c : ℕ) → is_below p c c ≡ true
unfolding is_below class_bound
below_same p c = rw (eq-eqb c c refl) refl
