-- The chains of the generated suite are its groups.
use Rattle.std.proofs.Common.{◌≡◌, ℕ, zero, suc, ◌+◌, ◌-◌, ◌*◌, ◌%◌, ◌<◌, ◌≤◌, ◌↔◌, inl, inr, true, false, List, [], ◌∷◌, length, get_or, refl, sym, ap, subst, ◌∙◌, arith}
use Rattle.std.proofs.lemmas.{Bool.both_ways, Bool.cases_lt, List.get_or_past}
use Rattle.et_base.proofs.Cases.{by_test}
use Rattle.jvm_model.specs.{declared.values.Location.Location, declared.program.Program.Program, World.same}
use Rattle.jvm_model.proofs.Locations.{same_true}
use Rattle.order_law.specs.declared.edges.{Edge.Edge, EdgeKind.EdgeKind, EdgeKind.TheVariants.Raw, EdgeKind.TheVariants.Waw, EdgeKind.TheVariants.War}
use Rattle.order_law.specs.Conflicts.{Member, Conflict, HasEdge, Before, edge, chain, Joined, itself, forth, back}
use Rattle.order_law.specs.{Exposed.written, Exposed.exposed, OwnRecord.edges_in, Plan.chain_at, Plan.AreListedChainsOf}
use Rattle.order_law.specs.Histories.{Touches, writes_in, exposed_in}
use Rattle.order_law.proofs.OwnRecord.{is_record}
use Rattle.suite_gen.specs.Generated.{group_of, group_count}
use Rattle.generated_law.specs.{GeneratedSuite.field_number, GeneratedRecord.static_of, GeneratedRecord.touches_at}
use Rattle.generated_law.proofs.OwnEdges.{written_elsewhere, exposed_elsewhere, odd_writes, writes_as, writes_own, reads_own}

-- ---- numbers that rise

-- f rises strictly on the numbers below m, and takes just the values below n: there are as many
module _ (f : ℕ → ℕ) (m n : ℕ) (rises : (i j : ℕ) → i < j → j < m → f i < f j) (below : (i : ℕ) → i < m → f i < n) (onto : (g : ℕ) → g < n → (i : ℕ) × (i < m) × (f i ≡ g)) where
  low : (i : ℕ) → i < m → i ≤ f i
  low zero less = omega arith
  low (suc i) less = omega (arith, low i (omega (arith, less)), rises i (suc i) (omega arith) less)

  exact : (b g : ℕ) → g < b → g < n → (g < m) × (f g ≡ g)
  exact zero g less few = absurd (omega (arith, less))
  exact (suc b) g less few =
      let a = onto g few in
      let i = a.0 in
      let under = low i a.1 in
      elim (cases_lt i g) [
        | inl l ↦ let before = exact b i (omega (arith, l, less)) (omega (arith, l, few)) in absurd (omega (arith, before.1, a.2, l))
        | inr l ↦ let here : i ≡ g = omega (arith, l, under, a.2) in (omega (arith, here, a.1), subst (λ x. f x ≡ x) here (a.2 ∙ sym here))
      ]

  enough : n ≤ m
  enough = elim (cases_lt 0 n) [ inl l ↦ let last = exact n (n - 1) (omega (arith, l)) (omega (arith, l)) in omega (arith, last.0, l) | inr l ↦ omega (arith, l) ]

  no_more : m ≤ n
  no_more = elim (cases_lt 0 m) [ inl l ↦ omega (arith, l, low (m - 1) (omega (arith, l)), below (m - 1) (omega (arith, l))) | inr l ↦ omega (arith, l) ]

  as_many : m ≡ n
  as_many = omega (arith, enough, no_more)

-- ---- touches of one static

place_written : (v : ℕ) (L : Location) → written (touches_at v) L ≡ true → L ≡ static_of (group_of v)
unfolding touches_at
place_written v L h = let M = static_of (group_of v) in by_test (same L M) (λ yes. same_true L M yes) (λ no. absurd (both_ways _ (written_elsewhere _ _ L M no) h))

place_exposed : (v : ℕ) (L : Location) → exposed (touches_at v) L ≡ true → L ≡ static_of (group_of v)
unfolding touches_at
place_exposed v L h = let M = static_of (group_of v) in by_test (same L M) (λ yes. same_true L M yes) (λ no. absurd (both_ways _ (exposed_elsewhere _ _ L M no) h))

one_group : (u t : ℕ) (L : Location) → L ≡ static_of (group_of u) → L ≡ static_of (group_of t) → group_of u ≡ group_of t
one_group u t L a b =
    let e : static_of (group_of u) ≡ static_of (group_of t) = sym a ∙ b in
    let f : field_number (group_of u) ≡ field_number (group_of t) = cc in
    omega (arith, f)

-- the first of a list that has a member
first_in : (xs : List ℕ) (t : ℕ) → Member t xs → (u : ℕ) × (l : List ℕ) × (xs ≡ u ∷ l)
first_in [] t i = absurd i
first_in (u ∷ l) t i = (u, l, refl)

first_member : (xs : List ℕ) (u : ℕ) (l : List ℕ) → xs ≡ u ∷ l → Member u xs
first_member xs u l e = let here : Member u (u ∷ l) = inl refl in subst (λ ys. Member u ys) (sym e) here

-- ---- chains

module _ (T : Touches) (by : ℕ → ℕ × ℕ) (p : Program) (k : ℕ) (each : (v : ℕ) → 1 ≤ v → v ≤ k → T v ≡ touches_at v) (count : length p.tests ≡ k) where
  abbrev R : List Edge
  R = edges_in p T by

  placed_write : (v : ℕ) (L : Location) → 1 ≤ v → v ≤ k → writes_in T v L ≡ true → L ≡ static_of (group_of v)
  placed_write v L low few h = place_written v L (sym (ap (λ ts. written ts L) (each v low few)) ∙ h)

  placed_read : (v : ℕ) (L : Location) → 1 ≤ v → v ≤ k → exposed_in T v L ≡ true → L ≡ static_of (group_of v)
  placed_read v L low few h = place_exposed v L (sym (ap (λ ts. exposed ts L) (each v low few)) ∙ h)

  conflict_group : (q : EdgeKind) (u t : ℕ) (L : Location) → 1 ≤ u → t ≤ k → Conflict (writes_in T) (exposed_in T) q u t L → group_of u ≡ group_of t
  conflict_group Raw u t L low few c = let less = c.0 in one_group u t L (placed_write u L low (omega (arith, less, few)) c.2) (placed_read t L (omega (arith, less, low)) few c.1)
  conflict_group Waw u t L low few c = let less = c.0 in one_group u t L (placed_write u L low (omega (arith, less, few)) c.1) (placed_write t L (omega (arith, less, low)) few c.2)
  conflict_group War u t L low few c = let less = c.0 in one_group u t L (placed_read u L low (omega (arith, less, few)) c.2) (placed_write t L (omega (arith, less, low)) few c.1)

  edge_group : (q : EdgeKind) (u t : ℕ) → HasEdge R q u t → group_of u ≡ group_of t
  edge_group q u t h = let c = (is_record p T by q u t).0 h in let some = c.0 in let few = c.1 in conflict_group q u t c.2 (omega (arith, some)) (omega (arith, few, count)) c.3

  before_group : (u t : ℕ) → Before R u t → group_of u ≡ group_of t
  before_group u t (edge q h) = edge_group q u t h
  before_group u t (chain {v = v} a b) = before_group u v a ∙ before_group v t b

  -- the reads of the first test's write, and of the third's
  near : (u : ℕ) → 1 ≤ u → suc u ≤ k → (u - 1) % 2 ≡ 0 → Before R u (suc u)
  near u low few even =
      let L = static_of (group_of (suc u)) in
      let write = writes_own T by p k each u (group_of (suc u)) low (omega (arith, few)) even (omega (arith, even, low)) in
      let read = reads_own T by p k each (suc u) (group_of (suc u)) (omega arith) few (λ e. omega (arith, e, even, low)) refl in
      edge Raw ((is_record p T by Raw u (suc u)).1 (omega (arith, low), omega (arith, few, count), L, (omega arith, read, write, (λ x above under. absurd (omega (arith, above, under))))))

  two : (u : ℕ) → 1 ≤ u → suc (suc u) ≤ k → (u - 1) % 4 ≡ 0 → Before R u (suc (suc u))
  two u low few first =
      let t = suc (suc u) in
      let L = static_of (group_of t) in
      let write = writes_own T by p k each u (group_of t) low (omega (arith, few)) (omega (arith, first)) (omega (arith, first, low)) in
      let read = reads_own T by p k each t (group_of t) (omega arith) few (λ e. omega (arith, e, first, low)) refl in
      let between : (x : ℕ) → u < x → x < t → writes_in T x L ≡ false = λ x above under. writes_as T by p k each x L false (omega (arith, above)) (omega (arith, under, few)) (odd_writes x L (omega (arith, above, under, first, low))) in
      edge Raw ((is_record p T by Raw u t).1 (omega (arith, low), omega (arith, few, count), L, (omega arith, read, write, between)))

  module _ (S : ℕ → Type 0) (C : List (List ℕ)) (all : (t : ℕ) → S t ↔ ((1 ≤ t) × (t ≤ k))) (h : AreListedChainsOf R S C) where
    joined_group : (t u : ℕ) → Joined R S t u → group_of t ≡ group_of u
    joined_group t u (itself s) = refl
    joined_group t u (forth {u = v} j s b) = joined_group t v j ∙ before_group v u b
    joined_group t u (back {u = v} j s b) = joined_group t v j ∙ sym (before_group u v b)

    -- each test is joined to the first of its group
    to_first : (u t : ℕ) → 1 ≤ u → (u - 1) % 4 ≡ 0 → t ≤ k → group_of t ≡ group_of u → 1 ≤ t → Joined R S u t
    to_first u t low first few same some = elim (cases_lt t (suc u)) [
      | inl l ↦ let e : u ≡ t = omega (arith, l, same, first, low, some) in subst (λ x. Joined R S u x) e (itself ((all u).1 (low, omega (arith, e, few))))
      | inr l ↦ elim (cases_lt t (suc (suc u))) [
        | inl m ↦
            let e : suc u ≡ t = omega (arith, l, m) in
            subst (λ x. Joined R S u x) e (forth (itself ((all u).1 (low, omega (arith, e, few)))) ((all (suc u)).1 (omega arith, omega (arith, e, few))) (near u low (omega (arith, e, few)) (omega (arith, first))))
        | inr m ↦
            let third : Joined R S u (suc (suc u)) = forth (itself ((all u).1 (low, omega (arith, m, few)))) ((all (suc (suc u))).1 (omega arith, omega (arith, m, few))) (two u low (omega (arith, m, few)) first) in
            elim (cases_lt t (suc (suc (suc u)))) [
              | inl o ↦ let e : suc (suc u) ≡ t = omega (arith, m, o) in subst (λ x. Joined R S u x) e third
              | inr o ↦
                  let e : suc (suc (suc u)) ≡ t = omega (arith, o, same, first, low, some) in
                  subst (λ x. Joined R S u x) e (forth third ((all (suc (suc (suc u)))).1 (omega arith, omega (arith, e, few))) (near (suc (suc u)) (omega arith) (omega (arith, e, few)) (omega (arith, first, low))))
            ]
      ]
    ]

    within : (i t : ℕ) → Member t (chain_at C i) → (1 ≤ t) × (t ≤ k)
    within i t m = (all t).0 (h.chains.within i t m)

    -- the chain of a group's first test has all of the group
    group_chain : (i t : ℕ) → Member t (chain_at C i) → (a : ℕ) → Member (4 * group_of t + 1) (chain_at C a) → i ≡ a
    group_chain i t m a f =
        let at = within i t m in
        let some = at.0 in
        let few = at.1 in
        let first = 4 * group_of t + 1 in
        h.chains.apart i a t m (h.chains.joined a first t f (to_first first t (omega arith) (omega (arith, some)) few (omega (arith, some)) some))

    first_there : (t : ℕ) → 1 ≤ t → t ≤ k → (a : ℕ) × Member (4 * group_of t + 1) (chain_at C a)
    first_there t some few = h.chains.covered (4 * group_of t + 1) ((all (4 * group_of t + 1)).1 (omega arith, omega (arith, some, few)))

    same_chain : (i j t u : ℕ) → Member t (chain_at C i) → Member u (chain_at C j) → group_of t ≡ group_of u → i ≡ j
    same_chain i j t u m n e =
        let at = within i t m in
        let f = first_there t at.0 at.1 in
        group_chain i t m f.0 f.1 ∙ sym (group_chain j u n f.0 (subst (λ g. Member (4 * g + 1) (chain_at C f.0)) e f.1))

    -- the group of a chain, by its first test
    abbrev group_at : ℕ → ℕ
    group_at i = group_of (get_or (chain_at C i) 0 0)

    -- the first test of a chain
    record Begins (i : ℕ) : Type 0 where
      pub test : ℕ
      pub more : List ℕ
      pub is : chain_at C i ≡ test ∷ more
      pub member : Member test (chain_at C i)
      pub group : group_at i ≡ group_of test

    begins : (i t : ℕ) → Member t (chain_at C i) → Begins i
    begins i t m =
        let f = first_in (chain_at C i) t m in
        record { test = f.0; more = f.1; is = f.2; member = first_member (chain_at C i) f.0 f.1 f.2; group = ap (λ xs. group_of (get_or xs 0 0)) f.2 }

    filled : (i : ℕ) → i < length C → Begins i
    filled i less = let f = h.filled i less in begins i f.0 f.1

    rises : (i j : ℕ) → i < j → j < length C → group_at i < group_at j
    rises i j less few =
        let a = filled i (omega (arith, less, few)) in
        let b = filled j few in
        let before : a.test < b.test = h.by_first i j a.test b.test a.more b.more less a.is b.is in
        let apart : group_of a.test ≡ group_of b.test → ⊥ = λ e. omega (arith, same_chain i j a.test b.test a.member b.member e, less) in
        let ga = a.group in
        let gb = b.group in
        omega (arith, before, apart, ga, gb)

    below : (i : ℕ) → i < length C → group_at i < group_count k
    below i less = let a = filled i less in let at = within i a.test a.member in let some = at.0 in let few = at.1 in let g = a.group in omega (arith, some, few, g)

    there : (i t : ℕ) → Member t (chain_at C i) → i < length C
    there i t m = elim (cases_lt i (length C)) [ inl l ↦ l | inr l ↦ absurd (subst (λ xs. Member t xs) (get_or_past C i [] l) m) ]

    onto : (g : ℕ) → g < group_count k → (i : ℕ) × (i < length C) × (group_at i ≡ g)
    onto g few =
        let f = h.chains.covered (4 * g + 1) ((all (4 * g + 1)).1 (omega arith, omega (arith, few))) in
        let a = begins f.0 (4 * g + 1) f.1 in
        let joined = joined_group a.test (4 * g + 1) (h.chains.least f.0 a.test (4 * g + 1) a.member f.1) in
        let ga = a.group in
        (f.0, there f.0 (4 * g + 1) f.1, omega (arith, joined, ga))

    pub count_chains : length C ≡ group_count k
    count_chains = as_many group_at (length C) (group_count k) rises below onto
