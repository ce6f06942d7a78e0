-- First indices: what the table keeps when the numbers up to an index were noted.
use Rattle.std.proofs.Common.{◌≤◌, inl, inr, ◌⊎◌, ◌≡◌, ℕ, zero, suc, List, [], ◌∷◌, length, ◌<◌, ◌+◌, ◌-◌, Option, Some, None, slice_get, set, replicate, drop, get_or, eqb, cond, refl, ap, sym, ◌∙◌, arith}
use Rattle.std.specs.List.{position_from}
use Rattle.std.proofs.lemmas.{List.drop_more, List.drop_all, Bool.cases_eq, Bool.eq-eqb, Bool.ne_eqb}
use Rattle.type_frames.specs.{Frames.index_of, Places.noted, Places.IsIndex}

abbrev pub or_else : Option ℕ → Option ℕ → Option ℕ
or_else None b = b
or_else (Some a) b = Some a

-- the first index of k from i on
abbrev pub index_from : ℕ → ℕ → List ℕ → Option ℕ
index_from k i ns = position_from (λ m. eqb m k) i ns

pub record Tracks (ns : List ℕ) (i : ℕ) (first : List (Option ℕ)) : Type 0 where
  pub at : (k : ℕ) (o : Option ℕ) → slice_get first k ≡ Some o → or_else o (index_from k i (drop i ns)) ≡ index_of k ns

replicated : (n k : ℕ) (o : Option ℕ) → slice_get (replicate n None) k ≡ Some o → o ≡ None
replicated zero k o e = cc
replicated (suc n) zero o e = cc
replicated (suc n) (suc k) o e = replicated n k o e

pub Tracks-none : (ns : List ℕ) (n : ℕ) → Tracks ns 0 (replicate n None)
unfolding index_of
Tracks-none ns n = record { at = λ k o e. ap (λ x. or_else x (index_from k 0 ns)) (replicated n k o e) }

same_place : (xs : List (Option ℕ)) (n : ℕ) (y z : Option ℕ) → slice_get xs n ≡ Some y → slice_get (set xs n z) n ≡ Some z
same_place [] n y z e = cc
same_place (x ∷ xs) zero y z e = refl
same_place (x ∷ xs) (suc n) y z e = same_place xs n y z e

other_place : (xs : List (Option ℕ)) (n k : ℕ) (z : Option ℕ) → (n ≡ k → ⊥) → slice_get (set xs n z) k ≡ slice_get xs k
other_place [] n k z ne = refl
other_place (x ∷ xs) zero zero z ne = absurd (ne refl)
other_place (x ∷ xs) zero (suc k) z ne = refl
other_place (x ∷ xs) (suc n) zero z ne = refl
other_place (x ∷ xs) (suc n) (suc k) z ne = other_place xs n k z (λ e. ne (ap suc e))

-- what a write at n leaves at k
pub noted_other : (first : List (Option ℕ)) (n i k : ℕ) → (n ≡ k → ⊥) → slice_get (noted first n i) k ≡ slice_get first k
noted_other first n i k ne = go (slice_get first n)
  where
    go : (o : Option (Option ℕ)) → slice_get (elim o [ Some o ↦ elim o [ None ↦ set first n (Some i) | Some j ↦ first ] | None ↦ first ]) k ≡ slice_get first k
    go None = refl
    go (Some None) = other_place first n k (Some i) ne
    go (Some (Some j)) = refl

noted_same : (first : List (Option ℕ)) (n i : ℕ) (o : Option ℕ) → slice_get (noted first n i) n ≡ Some o → (d : Option ℕ) × (slice_get first n ≡ Some d) × (o ≡ or_else d (Some i))
noted_same first n i o e = go (slice_get first n) refl e
  where
    go : (q : Option (Option ℕ)) → slice_get first n ≡ q → slice_get (elim q [ Some o ↦ elim o [ None ↦ set first n (Some i) | Some j ↦ first ] | None ↦ first ]) n ≡ Some o → (d : Option ℕ) × (slice_get first n ≡ Some d) × (o ≡ or_else d (Some i))
    go None s h = let x : None ≡ Some o = sym s ∙ h in cc
    go (Some None) s h = let x : Some (Some i) ≡ Some o = sym (same_place first n None (Some i) s) ∙ h in let y : o ≡ Some i = cc in (None, s, y)
    go (Some (Some j)) s h = let x : Some (Some j) ≡ Some o = sym s ∙ h in let y : o ≡ Some j = cc in (Some j, s, y)

or_else_first : (o : Option ℕ) (i : ℕ) (r : Option ℕ) → or_else (or_else o (Some i)) r ≡ or_else o (Some i)
or_else_first None i r = refl
or_else_first (Some j) i r = refl

pub Tracks-more : (ns : List ℕ) (i : ℕ) (first : List (Option ℕ)) → i < length ns → Tracks ns i first → Tracks ns (i + 1) (noted first (get_or ns i 0) i)
Tracks-more ns i first lt t = record { at = λ k o e. go k o e (cases_eq (get_or ns i 0) k) }
  where
    split : (k : ℕ) → index_from k i (drop i ns) ≡ cond (eqb (get_or ns i 0) k) (Some i) (index_from k (i + 1) (drop (i + 1) ns))
    split k = ap (index_from k i) (drop_more ns i 0 lt)

    go : (k : ℕ) (o : Option ℕ) → slice_get (noted first (get_or ns i 0) i) k ≡ Some o → (get_or ns i 0 ≡ k) ⊎ (get_or ns i 0 ≡ k → ⊥) → or_else o (index_from k (i + 1) (drop (i + 1) ns)) ≡ index_of k ns
    go k o e (inl s) =
        let h : slice_get (noted first (get_or ns i 0) i) (get_or ns i 0) ≡ Some o = ap (slice_get (noted first (get_or ns i 0) i)) s ∙ e in
        let q = noted_same first (get_or ns i 0) i o h in
        let old = t.at k q.0 (sym (ap (slice_get first) s) ∙ q.1) in
        let r : index_from k i (drop i ns) ≡ Some i = split k ∙ ap (λ b. cond b (Some i) (index_from k (i + 1) (drop (i + 1) ns))) (eq-eqb _ _ s) in
        ap (λ x. or_else x (index_from k (i + 1) (drop (i + 1) ns))) q.2 ∙ or_else_first q.0 i _ ∙ ap (or_else q.0) (sym r) ∙ old
    go k o e (inr ne) =
        let old = t.at k o (sym (noted_other first (get_or ns i 0) i k ne) ∙ e) in
        let r : index_from k i (drop i ns) ≡ index_from k (i + 1) (drop (i + 1) ns) = split k ∙ ap (λ b. cond b (Some i) (index_from k (i + 1) (drop (i + 1) ns))) (ne_eqb _ _ ne) in
        ap (or_else o) (sym r) ∙ old

or_else_none : (o : Option ℕ) → or_else o None ≡ o
or_else_none None = refl
or_else_none (Some a) = refl

pub Tracks-all : (ns : List ℕ) (i : ℕ) (first : List (Option ℕ)) → length ns ≤ i → Tracks ns i first → IsIndex ns first
Tracks-all ns i first le t = λ k o e. sym (or_else_none o) ∙ ap (or_else o) (sym (ap (index_from k i) (drop_all i ns le))) ∙ t.at k o e

-- what an index says of its number
within : (n j : ℕ) (ns : List ℕ) (i : ℕ) → index_from n j ns ≡ Some i → (j ≤ i) × (i < j + length ns) × (get_or ns (i - j) 0 ≡ n)
within n j [] i e = cc
within n j (m ∷ ns) i e = go (λ h. within n (j + 1) ns i h) (cases_eq m n)
  where
    go : (index_from n (j + 1) ns ≡ Some i → (j + 1 ≤ i) × (i < j + 1 + length ns) × (get_or ns (i - (j + 1)) 0 ≡ n)) → (m ≡ n) ⊎ (m ≡ n → ⊥) → (j ≤ i) × (i < j + length (m ∷ ns)) × (get_or (m ∷ ns) (i - j) 0 ≡ n)
    go rest (inl s) =
        let h : Some j ≡ Some i = sym (ap (λ b. cond b (Some j) (index_from n (j + 1) ns)) (eq-eqb m n s)) ∙ e in
        let q : j ≡ i = cc in
        let z : i - j ≡ 0 = omega arith in
        (omega arith, omega arith, ap (λ k. get_or (m ∷ ns) k 0) z ∙ s)
    go rest (inr ne) =
        let h : index_from n (j + 1) ns ≡ Some i = sym (ap (λ b. cond b (Some j) (index_from n (j + 1) ns)) (ne_eqb m n ne)) ∙ e in
        let r = rest h in
        let z : i - j ≡ suc (i - (j + 1)) = omega (arith, r.0, r.1) in
        (omega (arith, r.0), omega (arith, r.1), ap (λ k. get_or (m ∷ ns) k 0) z ∙ r.2)

pub index_of_some : (n : ℕ) (ns : List ℕ) (i : ℕ) → index_of n ns ≡ Some i → (i < length ns) × (get_or ns i 0 ≡ n)
unfolding index_of
index_of_some n ns i e =
    let r = within n 0 ns i e in
    let z : i - 0 ≡ i = omega arith in
    (omega (arith, r.1), ap (λ k. get_or ns k 0) (sym z) ∙ r.2)
