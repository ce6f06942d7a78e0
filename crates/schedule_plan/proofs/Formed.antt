-- Listed chains have the form of chains, and what that form says of the tests of all chains.
use Rattle.std.proofs.Common.{◌≡◌, ℕ, zero, suc, ◌<◌, true, nat_le, List, [], ◌∷◌, ◌++◌, length, refl, sym, inl, inr, arith}
use Rattle.std.specs.List.{list_all}
use Rattle.std.proofs.lemmas.Bool.{cases_Bool, and_parts, true≢false, le-leb}
use Rattle.jvm_model.specs.Classes.{member}
use Rattle.order_law.specs.{declared.edges.Edge.Edge, Conflicts.Member, Conflicts.Distinct, RecordForm.no_repeats, RecordForm.joined, RecordForm.are_chains}
use Rattle.order_law.specs.Plan.{chain_at, AreApart, AreListedChainsOf}
use Rattle.order_law.proofs.{Members.member_either, Members.true_member, Posts.ascending_distinct}

pub joined_where : (C : List (List ℕ)) (t : ℕ) → Member t (joined C) → (i : ℕ) × Member t (chain_at C i)
joined_where [] t m = absurd m
joined_where (c ∷ C) t m = elim (member_either c (joined C) t m) [ inl a ↦ (0, a) | inr b ↦ let p = joined_where C t b in (suc p.0, p.1) ]

distinct_both : (l m : List ℕ) → Distinct l → Distinct m → ((t : ℕ) → Member t l → Member t m → ⊥) → Distinct (l ++ m)
distinct_both [] m a b f = b
distinct_both (x ∷ l) m a b f = (
  λ h. elim (member_either l m x h) [ inl i ↦ a.0 i | inr j ↦ f x (inl refl) j ],
  distinct_both l m a.1 b (λ t i j. f t (inr i) j),
)

-- no test stands twice in the chains
pub distinct_joined : (C : List (List ℕ)) → AreApart C → Distinct (joined C)
distinct_joined [] a = tt
distinct_joined (c ∷ C) a = distinct_both c (joined C) (a.once 0)
    (distinct_joined C (record { apart = λ i j t m n. let e : suc i ≡ suc j = a.apart (suc i) (suc j) t m n in omega arith; once = λ i. a.once (suc i) }))
    (λ t m n. let p = joined_where C t n in let e : 0 ≡ suc p.0 = a.apart 0 (suc p.0) t m p.1 in absurd (omega arith))

none_repeats : (l : List ℕ) → Distinct l → no_repeats l ≡ true
none_repeats [] d = refl
none_repeats (t ∷ l) d = elim (cases_Bool (member t l)) [
  | inl e ↦ absurd (d.0 (true_member t l e))
  | inr e ↦ rw e (none_repeats l d.1)
]

some_long : (l : List ℕ) (t : ℕ) → Member t l → nat_le 1 (length l) ≡ true
some_long [] t m = absurd m
some_long (x ∷ l) t m = le-leb 1 (length (x ∷ l)) (omega arith)

pub all_filled : (C : List (List ℕ)) → ((i : ℕ) → i < length C → (t : ℕ) × Member t (chain_at C i)) → list_all (λ l. nat_le 1 (length l)) C ≡ true
all_filled [] f = refl
all_filled (c ∷ C) f = let p = f 0 (omega arith) in rw (some_long c p.0 p.1) (all_filled C (λ i h. f (suc i) (omega arith)))

pub chains_form : (R : List Edge) (S : ℕ → Type 0) (C : List (List ℕ)) → AreListedChainsOf R S C → are_chains C ≡ true
unfolding are_chains
chains_form R S C cs =
    let d = distinct_joined C (record { apart = cs.chains.apart; once = λ i. ascending_distinct (chain_at C i) (cs.chains.ascending i) }) in
    rw (all_filled C cs.filled) (none_repeats (joined C) d)

all_long : (C : List (List ℕ)) → list_all (λ l. nat_le 1 (length l)) C ≡ true → (i : ℕ) → i < length C → 0 < length (chain_at C i)
all_long [] e i h = absurd (omega arith)
all_long ([] ∷ C) e i h = absurd (let p = and_parts (nat_le 1 (length {A = ℕ} [])) (list_all (λ l. nat_le 1 (length l)) C) e in true≢false (sym p.0))
all_long ((x ∷ c) ∷ C) e zero h = omega arith
all_long ((x ∷ c) ∷ C) e (suc i) h = all_long C (and_parts (nat_le 1 (length (x ∷ c))) (list_all (λ l. nat_le 1 (length l)) C) e).1 i (omega arith)

-- no chain is empty
pub filled_from : (C : List (List ℕ)) → are_chains C ≡ true → (i : ℕ) → i < length C → 0 < length (chain_at C i)
unfolding are_chains
filled_from C e = all_long C (and_parts (list_all (λ l. nat_le 1 (length l)) C) (no_repeats (joined C)) e).0

pub chain_there : (C : List (List ℕ)) (i t : ℕ) → Member t (chain_at C i) → i < length C
chain_there [] i t m = absurd m
chain_there (c ∷ C) zero t m = omega arith
chain_there (c ∷ C) (suc i) t m = let x = chain_there C i t m in omega arith
