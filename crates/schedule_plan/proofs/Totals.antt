-- Sums of units of different tests.
use Rattle.std.proofs.Common.{◌≡◌, ℕ, suc, ◌+◌, ◌-◌, ◌<◌, ◌≤◌, true, List, [], ◌∷◌, ◌++◌, length, get_or, set, take, map, replicate, All, sum, sum_by, refl, sym, ◌∙◌, ap, subst, inl, inr, arith, length-append}
use Rattle.std.proofs.{lemmas.Bool.cases_eq, lemmas.List.Elements.All-from_get_or, lemmas.List.Folds.sum_by-replicate, Math.ListN.length-set}
use Rattle.std.proofs.lemmas.List.{get_or-set_other, get_or-replicate, length-replicate, take_all, take_more, map-append, length-map, get_or_read}
use Rattle.std.proofs.lemmas.List.Sums.{sum_by-cons, sum_by-append, sum_by-set, sum-map, sum_by-take-le, sum_by_more}
use Rattle.order_law.specs.{Conflicts.Member, Conflicts.Distinct, RecordForm.joined, Plan.chain_at, Plan.AreApart, RecordForm.are_chains}
use Rattle.schedule_plan.specs.{declared.shares.Share.Share, Grouping.at}
use Rattle.schedule_plan.specs.Plans.{HasUnits, HaveUnits, units_of, chain_units, no_share, chains_at, AreDealt}
use Rattle.order_law.proofs.Posts.{forms_apart}
use Rattle.schedule_plan.proofs.Formed.{joined_where, distinct_joined, filled_from, chain_there}

-- the units of a test that isn't there don't count
units_without : (l units : List ℕ) (t : ℕ) → 0 < t → (Member t l → ⊥) → ((u : ℕ) → Member u l → 0 < u) → units_of (set units (t - 1) 0) l ≡ units_of units l
units_without [] units t h f g = refl
units_without (u ∷ l) units t h f g =
    let p = g u (inl refl) in
    let other : u - 1 ≡ t - 1 → ⊥ = (λ (e : u - 1 ≡ t - 1). f (inl (omega arith))) in
    sum_by-cons (λ x. at (set units (t - 1) 0) (x - 1)) u l
    ∙ ap (λ (z : ℕ). z + units_of (set units (t - 1) 0) l) (get_or-set_other units (t - 1) (u - 1) 0 0 other)
    ∙ ap (λ (z : ℕ). at units (u - 1) + z) (units_without l units t h (λ m. f (inr m)) (λ v m. g v (inr m)))
    ∙ sym (sum_by-cons (λ x. at units (x - 1)) u l)

-- different tests have no more units than there are
units_within : (l units : List ℕ) → Distinct l → HasUnits l units → units_of units l ≤ sum units
units_within [] units d h = omega arith
units_within (t ∷ l) units d h =
    let p = h t (inl refl) in
    let pos : 0 < t = p.0 in
    let low : t ≤ length units = p.1 in
    let long = length-set units (t - 1) 0 in
    let rest : units_of (set units (t - 1) 0) l ≤ sum (set units (t - 1) 0) = units_within l (set units (t - 1) 0) d.1 (λ u m. let q = h u (inr m) in (q.0, subst (λ (z : ℕ). u ≤ z) (sym long) q.1)) in
    let same = units_without l units t pos d.0 (λ u m. (h u (inr m)).0) in
    let gone = sum_by-set (λ x. x) units (t - 1) 0 0 (omega arith) in
    let split = sum_by-cons (λ x. at units (x - 1)) t l in
    omega arith

ones : (l : List ℕ) (m : ℕ) → ((t : ℕ) → Member t l → (0 < t) × (t ≤ m)) → units_of (replicate m 1) l ≡ length l
ones [] m h = refl
ones (t ∷ l) m h =
    let p = h t (inl refl) in
    let pos : 0 < t = p.0 in
    let low : t ≤ m = p.1 in
    let one : at (replicate m 1) (t - 1) ≡ 1 = get_or-replicate m (t - 1) 1 0 (omega arith) in
    let rest = ones l m (λ u j. h u (inr j)) in
    let split = sum_by-cons (λ x. at (replicate m 1) (x - 1)) t l in
    omega arith

-- there are no more different numbers from 1 to m than m
pub few : (l : List ℕ) (m : ℕ) → Distinct l → ((t : ℕ) → Member t l → (0 < t) × (t ≤ m)) → length l ≤ m
few l m d h =
    let many = length-replicate m 1 in
    let a = units_within l (replicate m 1) d (λ t j. let p = h t j in (p.0, subst (λ (z : ℕ). t ≤ z) (sym many) p.1)) in
    let b = ones l m h in
    let c = sum_by-replicate (λ (x : ℕ). x) m 1 in
    omega arith

-- the same of numbers from 0
raised_range : (l : List ℕ) (m t : ℕ) → ((c : ℕ) → Member c l → c < m) → Member t (map suc l) → (0 < t) × (t ≤ m)
raised_range [] m t f i = absurd i
raised_range (c ∷ l) m t f (inl e) = let h : c < m = f c (inl refl) in (omega (arith, e), omega (arith, e))
raised_range (c ∷ l) m t f (inr i) = raised_range l m t (λ d j. f d (inr j)) i

lowered : (l : List ℕ) (c : ℕ) → Member (suc c) (map suc l) → Member c l
lowered [] c i = absurd i
lowered (d ∷ l) c (inl e) = inl (omega (arith, e))
lowered (d ∷ l) c (inr i) = inr (lowered l c i)

raised_distinct : (l : List ℕ) → Distinct l → Distinct (map suc l)
raised_distinct [] d = tt
raised_distinct (c ∷ l) d = (λ i. d.0 (lowered l c i), raised_distinct l d.1)

few_below : (l : List ℕ) (m : ℕ) → Distinct l → ((c : ℕ) → Member c l → c < m) → length l ≤ m
few_below l m d f =
    let many = few (map suc l) m (raised_distinct l d) (λ t i. raised_range l m t f i) in
    let same = length-map l suc in
    omega arith

-- a share has no more chains than there are
pub few_dealt : (n m : ℕ) (W : List Share) → AreDealt n W → n < m → All (λ s. length s.chains < m) W
few_dealt n m W is h = All-from_get_or (λ (s : Share). length s.chains < m) W no_share (λ w i. (let few = few_below (chains_at W w) n (is.once w) (is.within w) in omega arith))

each_filled : (C : List (List ℕ)) → ((i : ℕ) → i < length C → 0 < length (chain_at C i)) → length C ≤ length (joined C)
each_filled [] f = omega arith
each_filled (c ∷ C) f = let a : 0 < length c = f 0 (omega arith) in let b = each_filled C (λ i h. f (suc i) (omega arith)) in let e = length-append c (joined C) in omega arith

-- there are no more chains than numbers of tests
pub few_chains : (C : List (List ℕ)) (m : ℕ) → AreApart C → ((i : ℕ) → i < length C → 0 < length (chain_at C i)) → ((i t : ℕ) → Member t (chain_at C i) → (0 < t) × (t ≤ m)) → length C ≤ m
few_chains C m a f h =
    let x = each_filled C f in
    let y = few (joined C) m (distinct_joined C a) (λ t j. let p = joined_where C t j in h p.0 t p.1) in
    omega arith

units_joined : (C : List (List ℕ)) (units : List ℕ) → sum_by (λ l. units_of units l) C ≡ units_of units (joined C)
units_joined [] units = refl
units_joined (c ∷ C) units = sum_by-cons (λ l. units_of units l) c C ∙ ap (λ (z : ℕ). units_of units c + z) (units_joined C units) ∙ sym (sum_by-append (λ t. at units (t - 1)) c (joined C))

-- the chains have no more units than there are
pub chains_within : (C : List (List ℕ)) (units : List ℕ) → AreApart C → HaveUnits C units → sum (chain_units C units) ≤ sum units
chains_within C units a h =
    let e : sum (chain_units C units) ≡ units_of units (joined C) = sum-map (λ l. units_of units l) C ∙ units_joined C units in
    let b = units_within (joined C) units (distinct_joined C a) (λ t j. let p = joined_where C t j in h p.0 t p.1) in
    omega arith

-- one more test of different ones
pub units_more : (l units : List ℕ) (i : ℕ) → i < length l → Distinct l → HasUnits l units → units_of units (take i l) + at units (at l i - 1) ≤ sum units
units_more l units i h d u =
    let a = sum_by_more (λ t. at units (t - 1)) l i 0 h in
    let b = sum_by-take-le (λ t. at units (t - 1)) l (i + 1) in
    let e = units_within l units d u in
    omega arith

-- the next chain, as it is read
pub list_read : (C D : List (List ℕ)) (i : ℕ) (l s : List ℕ) → D ≡ C → i < length D → l ≡ get_or D i l → s ≡ l → s ≡ chain_at C i
list_read C D i l s g h e f = f ∙ get_or_read D i l h e [] ∙ ap (λ (X : List (List ℕ)). chain_at X i) g

pub numbers_next : (C : List (List ℕ)) (i n : ℕ) (s : List ℕ) → s ≡ chain_at C i → ((j t : ℕ) → j < i → Member t (chain_at C j) → t < n) → ((t : ℕ) → Member t s → t < n) → (j t : ℕ) → j < i + 1 → Member t (chain_at C j) → t < n
numbers_next C i n s e f g j t h m = elim (cases_eq j i) [
  | inl x ↦ g t (subst (λ (l : List ℕ). Member t l) (ap (λ (z : ℕ). chain_at C z) x ∙ sym e) m)
  | inr x ↦ f j t (omega arith) m
]

pub sizes_next : (C : List (List ℕ)) (units old m s : List ℕ) (i r : ℕ) → i < length C → old ≡ chain_units (take i C) units → s ≡ chain_at C i → r ≡ units_of units s → m ≡ old ++ (r ∷ []) → m ≡ chain_units (take (i + 1) C) units
sizes_next C units old m s i r h e f g x =
    x ∙ ap (λ (l : List ℕ). l ++ (r ∷ [])) e ∙ ap (λ (z : ℕ). chain_units (take i C) units ++ (z ∷ [])) (g ∙ ap (λ (l : List ℕ). units_of units l) f)
    ∙ sym (ap (λ (D : List (List ℕ)). chain_units D units) (take_more C i [] h) ∙ map-append (λ l. units_of units l) (take i C) (chain_at C i ∷ []))

pub sizes_all : (C : List (List ℕ)) (units v : List ℕ) (i : ℕ) → length C ≤ i → v ≡ chain_units (take i C) units → v ≡ chain_units C units
sizes_all C units v i h e = e ∙ ap (λ (D : List (List ℕ)). chain_units D units) (take_all i C h)

-- chains have numbers of 32 bits, as tests do
pub few_sizes : (C : List (List ℕ)) (units v : List ℕ) → are_chains C ≡ true → HaveUnits C units → ((i t : ℕ) → i < length C → Member t (chain_at C i) → t < 4294967296) → v ≡ chain_units C units → length v ≤ 4294967295
few_sizes C units v e h f x =
    let a = forms_apart C e in
    let many = ap (λ (l : List ℕ). length l) x in
    let same = length-map C (λ l. units_of units l) in
    let few = few_chains C 4294967295 a (filled_from C e) (λ i t m. ((h i t m).0, let y = f i t (chain_there C i t m) m in omega arith)) in
    omega arith
