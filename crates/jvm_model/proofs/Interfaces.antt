-- Whether a number is listed, and among what lists lead to.
use Rattle.std.proofs.Common.{◌≡◌, ℕ, suc, List, [], ◌∷◌, length, true, false, not, ◌||◌, nat_eq, refl, ◌∙◌, ap, inl, inr, sym, arith}
use Rattle.std.specs.Prelude.{flat_map}
use Rattle.std.specs.List.{list_any}
use Rattle.std.proofs.lemmas.Bool.{cases_Bool, eqb-true, eq-eqb, or_left}
use Rattle.std.proofs.{lemmas.List.Concat.flat_map-cons, lemmas.List.Folds.list_any-append, lemmas.Map.Views.any-filter_same}
use Rattle.jvm_model.specs.declared.program.Program.{Program}
use Rattle.jvm_model.specs.Classes.{class_at, class_bound, member, first_mentions, lineage_in, own_interfaces}

pub member_first : (n : ℕ) (xs : List ℕ) → member n (n ∷ xs) ≡ true
member_first n xs = or_left (nat_eq n n) (member n xs) (eq-eqb n n refl)

pub none_listed : (n : ℕ) (xs : List ℕ) → nat_eq (length xs) 0 ≡ true → member n xs ≡ true → ⊥
none_listed n [] e h = absurd (cc)
none_listed n (x ∷ xs) e h = absurd (let q : suc (length xs) ≡ 0 = eqb-true (suc (length xs)) 0 e in omega arith)

pub member-flat_map : {X : Type 0} (n : ℕ) (f : X → List ℕ) (xs : List X) → member n (flat_map f xs) ≡ list_any (λ x. member n (f x)) xs
member-flat_map n f [] = refl
member-flat_map n f (x ∷ xs) = ap (λ ys. member n ys) (flat_map-cons f x xs) ∙ (list_any-append (nat_eq n) (f x) (flat_map f xs) ∙ ap (λ b. member n (f x) || b) (member-flat_map n f xs))

-- later mentions of another number, left out
kept : (n x : ℕ) → nat_eq n x ≡ false → (k : ℕ) → nat_eq n k ≡ true → not (nat_eq x k) ≡ true
kept n x e k t = rw (← eqb-true n k t) (elim (cases_Bool (nat_eq x n)) [ inl q ↦ let s : nat_eq n x ≡ true = eq-eqb n x (sym (eqb-true x n q)) in cc | inr q ↦ rw q ])

pub member-first_mentions : (n : ℕ) (xs : List ℕ) → member n (first_mentions xs) ≡ member n xs
member-first_mentions n [] = refl
member-first_mentions n (x ∷ xs) = elim (cases_Bool (nat_eq n x)) [
  | inl e ↦ rw e
  | inr e ↦ rw e (any-filter_same (nat_eq n) (λ y. not (nat_eq x y)) true (kept n x e) (first_mentions xs) ∙ member-first_mentions n xs)
]

pub reached : (p : Program) (i c : ℕ) → member i (own_interfaces p c) ≡ list_any (λ j. member i (lineage_in p class_bound j)) (class_at p c).interfaces
unfolding own_interfaces
reached p i c = member-first_mentions i _ ∙ member-flat_map i (λ j. lineage_in p class_bound j) (class_at p c).interfaces
