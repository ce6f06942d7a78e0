-- The edges of the generated suite's own record, by what its tests touch.
use Rattle.std.proofs.Common.{◌≡◌, ℕ, zero, suc, ◌+◌, ◌-◌, ◌/◌, ◌%◌, ◌<◌, ◌≤◌, ◌⊎◌, inl, inr, Bool, true, false, not, ◌&&◌, ◌||◌, cond, eqb, List, [], ◌∷◌, ◌++◌, length, map, filter, flat_map, count_by, refl, sym, ap, subst, ◌∙◌, arith}
use Rattle.std.specs.List.{range_with_len}
use Rattle.std.proofs.lemmas.List.Sums.{sum_by-append}
use Rattle.std.proofs.lemmas.Bool.{and_from, lt-ltb, le-ltb, eqb-true, eq-eqb, ne_eqb, both_ways, and_left, and_right}
use Rattle.et_base.proofs.Cases.{by_test}
use Rattle.jvm_model.specs.{declared.values.Touch.Touch, declared.values.Location.Location, declared.program.Program.Program, World.same}
use Rattle.jvm_model.proofs.Locations.{same_refl}
use Rattle.order_law.specs.declared.edges.{Edge.Edge, EdgeKind.EdgeKind, EdgeKind.TheVariants.Raw, EdgeKind.TheVariants.Waw, EdgeKind.TheVariants.War}
use Rattle.order_law.specs.{Conflicts.Tests, Exposed.written, Exposed.exposed, Histories.Touches, Histories.writes_in, Histories.exposed_in}
use Rattle.order_law.specs.OwnRecord.{none_between, conflicts, first_places, places_in, conflict_places_in, edge_of, edges_between_in, edges_in}
use Rattle.suite_gen.specs.Generated.{group_of, group_count}
use Rattle.generated_law.specs.GeneratedSuite.{field_number}
use Rattle.generated_law.specs.GeneratedRecord.{static_of, touch_of, touches_at, is_raw, is_waw, is_war}

-- ---- what a test writes, and what it has an exposed read of

-- touches of the static M, seen from the static L
abbrev touched : Bool → Bool → Location → List Touch
touched first third M = cond first (touch_of true M ∷ []) (cond third (touch_of false M ∷ touch_of true M ∷ []) (touch_of false M ∷ []))

pub written_elsewhere : (first third : Bool) (L M : Location) → same L M ≡ false → written (touched first third M) L ≡ false
written_elsewhere true third L M e = ap (λ b. b || false) e
written_elsewhere false true L M e = ap (λ b. b || false) e
written_elsewhere false false L M e = refl

pub exposed_elsewhere : (first third : Bool) (L M : Location) → same L M ≡ false → exposed (touched first third M) L ≡ false
exposed_elsewhere true third L M e = ap (λ b. not b && false) e
exposed_elsewhere false true L M e = ap (λ b. b || (not b && false)) e
exposed_elsewhere false false L M e = ap (λ b. b || false) e

written_there : (first third : Bool) (L : Location) → written (touched first third L) L ≡ cond first true third
written_there true third L = ap (λ b. b || false) (same_refl L)
written_there false true L = ap (λ b. b || false) (same_refl L)
written_there false false L = refl

exposed_there : (third : Bool) (L : Location) → exposed (touched false third L) L ≡ true
exposed_there true L = ap (λ b. b || (not b && false)) (same_refl L)
exposed_there false L = ap (λ b. b || false) (same_refl L)

never_exposed : (third : Bool) (L M : Location) → exposed (touched true third M) L ≡ false
never_exposed third L M = and_right (not (same L M)) false refl

apart : (g h : ℕ) → (h ≡ g → ⊥) → same (static_of g) (static_of h) ≡ false
apart g h differ = ne_eqb (field_number g) (field_number h) (λ e. differ (omega (arith, e)))

-- a test of another group
other_writes : (v g : ℕ) → (group_of v ≡ g → ⊥) → written (touches_at v) (static_of g) ≡ false
unfolding touches_at
other_writes v g differ = written_elsewhere _ _ (static_of g) (static_of (group_of v)) (apart g (group_of v) differ)

other_reads : (v g : ℕ) → (group_of v ≡ g → ⊥) → exposed (touches_at v) (static_of g) ≡ false
unfolding touches_at
other_reads v g differ = exposed_elsewhere _ _ (static_of g) (static_of (group_of v)) (apart g (group_of v) differ)

-- the second and the fourth of a group write nothing, and the first reads nothing
pub odd_writes : (v : ℕ) (L : Location) → (v - 1) % 2 ≡ 1 → written (touches_at v) L ≡ false
unfolding touches_at
odd_writes v L odd =
    let first : eqb ((v - 1) % 4) 0 ≡ false = ne_eqb ((v - 1) % 4) 0 (λ e. omega (arith, e, odd)) in
    let third : eqb ((v - 1) % 4) 2 ≡ false = ne_eqb ((v - 1) % 4) 2 (λ e. omega (arith, e, odd)) in
    ap (λ b. written (touched b (eqb ((v - 1) % 4) 2) (static_of (group_of v))) L) first ∙ ap (λ b. written (touched false b (static_of (group_of v))) L) third

first_reads : (v : ℕ) (L : Location) → (v - 1) % 4 ≡ 0 → exposed (touches_at v) L ≡ false
unfolding touches_at
first_reads v L e =
    let M = static_of (group_of v) in
    ap (λ b. exposed (touched b (eqb ((v - 1) % 4) 2) M) L) (eq-eqb ((v - 1) % 4) 0 e) ∙ never_exposed (eqb ((v - 1) % 4) 2) L M

even_writes : (v : ℕ) → (v - 1) % 2 ≡ 0 → written (touches_at v) (static_of (group_of v)) ≡ true
unfolding touches_at
even_writes v even = written_there _ _ (static_of (group_of v)) ∙ by_test (eqb ((v - 1) % 4) 0)
    (λ yes. ap (λ b. cond b true (eqb ((v - 1) % 4) 2)) yes)
    (λ no.
    let differ : (v - 1) % 4 ≡ 0 → ⊥ = λ e. both_ways (eqb ((v - 1) % 4) 0) no (eq-eqb ((v - 1) % 4) 0 e) in
    ap (λ b. cond b true (eqb ((v - 1) % 4) 2)) no ∙ eq-eqb ((v - 1) % 4) 2 (omega (arith, even, differ)))

later_reads : (v : ℕ) → ((v - 1) % 4 ≡ 0 → ⊥) → exposed (touches_at v) (static_of (group_of v)) ≡ true
unfolding touches_at
later_reads v differ =
    let M = static_of (group_of v) in
    ap (λ b. exposed (touched b (eqb ((v - 1) % 4) 2) M) M) (ne_eqb ((v - 1) % 4) 0 differ) ∙ exposed_there (eqb ((v - 1) % 4) 2) M

-- ---- between two tests

none_near : (W : Tests) (u : ℕ) (L : Location) → none_between W u (suc u) L ≡ true
none_near W u L = ap (λ b. cond b (not (W u L) && none_between W u u L) true) (le-ltb u u (omega arith))

none_two : (W : Tests) (u : ℕ) (L : Location) → W (suc u) L ≡ false → none_between W u (suc (suc u)) L ≡ true
none_two W u L e = ap (λ b. cond b (not (W (suc u) L) && none_between W u (suc u) L) true) (lt-ltb u (suc u) (omega arith)) ∙ and_from _ _ (ap not e) (none_near W u L)

some_between : (W : Tests) (u x : ℕ) (L : Location) → u < x → W x L ≡ true → none_between W u (suc x) L ≡ false
some_between W u x L less e = ap (λ b. cond b (not (W x L) && none_between W u x L) true) (lt-ltb u x less) ∙ and_left (not (W x L)) (none_between W u x L) (ap not e)

-- ---- from which test an edge comes, 0 where there is none

abbrev raw_from : ℕ → ℕ
raw_from t = cond (eqb ((t - 1) % 4) 0) 0 (cond (eqb ((t - 1) % 4) 2) (t - 2) (t - 1))

abbrev waw_from : ℕ → ℕ
waw_from t = cond (eqb ((t - 1) % 4) 2) (t - 2) 0

abbrev war_from : ℕ → ℕ
war_from t = cond (eqb ((t - 1) % 4) 2) (t - 1) 0

-- the second test is the third of its group, or not
third_by : {A : Type 0} (t : ℕ) → ((t - 1) % 4 ≡ 2 → A) → (((t - 1) % 4 ≡ 2 → ⊥) → A) → A
third_by t holds fails = by_test (eqb ((t - 1) % 4) 2) (λ e. holds (eqb-true _ _ e)) (λ e. fails (λ d. both_ways (eqb ((t - 1) % 4) 2) e (eq-eqb ((t - 1) % 4) 2 d)))

first_by : {A : Type 0} (t : ℕ) → ((t - 1) % 4 ≡ 0 → A) → (((t - 1) % 4 ≡ 0 → ⊥) → A) → A
first_by t holds fails = by_test (eqb ((t - 1) % 4) 0) (λ e. holds (eqb-true _ _ e)) (λ e. fails (λ d. both_ways (eqb ((t - 1) % 4) 0) e (eq-eqb ((t - 1) % 4) 0 d)))

equal_by : {A : Type 0} (u x : ℕ) → (u ≡ x → A) → ((u ≡ x → ⊥) → A) → A
equal_by u x holds fails = by_test (eqb u x) (λ e. holds (eqb-true _ _ e)) (λ e. fails (λ d. both_ways (eqb u x) e (eq-eqb u x d)))

raw_first : (t : ℕ) → (t - 1) % 4 ≡ 0 → raw_from t ≡ 0
raw_first t e = ap (λ b. cond b 0 (cond (eqb ((t - 1) % 4) 2) (t - 2) (t - 1))) (eq-eqb ((t - 1) % 4) 0 e)

raw_third : (t : ℕ) → (t - 1) % 4 ≡ 2 → raw_from t ≡ t - 2
raw_third t e = ap (λ b. cond b 0 (cond (eqb ((t - 1) % 4) 2) (t - 2) (t - 1))) (ne_eqb ((t - 1) % 4) 0 (λ z. omega (arith, e, z))) ∙ ap (λ b. cond b (t - 2) (t - 1)) (eq-eqb ((t - 1) % 4) 2 e)

raw_other : (t : ℕ) → ((t - 1) % 4 ≡ 0 → ⊥) → ((t - 1) % 4 ≡ 2 → ⊥) → raw_from t ≡ t - 1
raw_other t e d = ap (λ b. cond b 0 (cond (eqb ((t - 1) % 4) 2) (t - 2) (t - 1))) (ne_eqb ((t - 1) % 4) 0 e) ∙ ap (λ b. cond b (t - 2) (t - 1)) (ne_eqb ((t - 1) % 4) 2 d)

waw_third : (t : ℕ) → (t - 1) % 4 ≡ 2 → waw_from t ≡ t - 2
waw_third t e = ap (λ b. cond b (t - 2) 0) (eq-eqb ((t - 1) % 4) 2 e)

waw_other : (t : ℕ) → ((t - 1) % 4 ≡ 2 → ⊥) → waw_from t ≡ 0
waw_other t e = ap (λ b. cond b (t - 2) 0) (ne_eqb ((t - 1) % 4) 2 e)

war_third : (t : ℕ) → (t - 1) % 4 ≡ 2 → war_from t ≡ t - 1
war_third t e = ap (λ b. cond b (t - 1) 0) (eq-eqb ((t - 1) % 4) 2 e)

war_other : (t : ℕ) → ((t - 1) % 4 ≡ 2 → ⊥) → war_from t ≡ 0
war_other t e = ap (λ b. cond b (t - 1) 0) (ne_eqb ((t - 1) % 4) 2 e)

-- a test that is false, and a number that isn't this one
neither : (b : Bool) (u s n : ℕ) → b ≡ false → s ≡ n → (u ≡ n → ⊥) → b ≡ eqb u s
neither b u s n e is differ = e ∙ sym (ne_eqb u s (λ d. differ (d ∙ is)))

both : (b : Bool) (u s n : ℕ) → b ≡ true → s ≡ n → u ≡ n → b ≡ eqb u s
both b u s n e is same = e ∙ sym (eq-eqb u s (same ∙ sym is))

-- ---- counting

count_append : (f : Edge → Bool) (xs ys : List Edge) → count_by f (xs ++ ys) ≡ count_by f xs + count_by f ys
count_append f xs ys = sum_by-append (λ e. cond (f e) 1 0) xs ys

-- what counts one for the number s alone, over numbers without s
count_none : (f : Edge → Bool) (h : ℕ → List Edge) (s a n : ℕ) → ((u : ℕ) → a ≤ u → u < a + n → count_by f (h u) ≡ cond (eqb u s) 1 0) → ((s < a) ⊎ (a + n ≤ s)) → count_by f (flat_map h (range_with_len a n)) ≡ 0
count_none f h s a zero each out = refl
count_none f h s a (suc n) each out =
    let others = flat_map h (range_with_len (a + 1) n) in
    let differ : a ≡ s → ⊥ = λ e. elim out [ inl l ↦ omega (arith, l, e) | inr l ↦ omega (arith, l, e) ] in
    let one : count_by f (h a) ≡ 0 = each a (omega arith) (omega arith) ∙ ap (λ b. cond b 1 0) (ne_eqb a s differ) in
    let more : count_by f others ≡ 0 = count_none f h s (a + 1) n (λ u low high. each u (omega (arith, low)) (omega (arith, high))) (elim out [ inl l ↦ inl (omega (arith, l)) | inr l ↦ inr (omega (arith, l)) ]) in
    count_append f (h a) others ∙ omega (arith, one, more)

-- over numbers with s
count_once : (f : Edge → Bool) (h : ℕ → List Edge) (s a n : ℕ) → ((u : ℕ) → a ≤ u → u < a + n → count_by f (h u) ≡ cond (eqb u s) 1 0) → a ≤ s → s < a + n → count_by f (flat_map h (range_with_len a n)) ≡ 1
count_once f h s a zero each low high = absurd (omega (arith, low, high))
count_once f h s a (suc n) each low high =
    let others = flat_map h (range_with_len (a + 1) n) in
    let later : (u : ℕ) → a + 1 ≤ u → u < a + 1 + n → count_by f (h u) ≡ cond (eqb u s) 1 0 = λ u l g. each u (omega (arith, l)) (omega (arith, g)) in
    count_append f (h a) others ∙ equal_by a s
    (λ same.
    let one : count_by f (h a) ≡ 1 = each a (omega arith) (omega arith) ∙ ap (λ b. cond b 1 0) (eq-eqb a s same) in
    let more : count_by f others ≡ 0 = count_none f h s (a + 1) n later (inl (omega (arith, same))) in
    omega (arith, one, more))
    (λ differ.
    let one : count_by f (h a) ≡ 0 = each a (omega arith) (omega arith) ∙ ap (λ b. cond b 1 0) (ne_eqb a s differ) in
    let more : count_by f others ≡ 1 = count_once f h s (a + 1) n later (omega (arith, low, differ)) (omega (arith, high)) in
    omega (arith, one, more))

-- what is counted of each number is how much P grows there
count_grown : (f : Edge → Bool) (h : ℕ → List Edge) (P : ℕ → ℕ) (a n : ℕ) → ((t : ℕ) → a ≤ t → t < a + n → P t + count_by f (h t) ≡ P (t + 1)) → P a + count_by f (flat_map h (range_with_len a n)) ≡ P (a + n)
count_grown f h P a zero each = let same : a ≡ a + 0 = omega arith in omega (arith, ap P same)
count_grown f h P a (suc n) each =
    let others = flat_map h (range_with_len (a + 1) n) in
    let more = count_grown f h P (a + 1) n (λ t low high. each t (omega (arith, low)) (omega (arith, high))) in
    let same : a + 1 + n ≡ a + suc n = omega arith in
    omega (arith, each a (omega arith) (omega arith), more, ap P same, count_append f (h a) others)

-- the edges of each kind, where there is one or none
abbrev one_if : Bool → Location → List Location
one_if b L = cond b (L ∷ []) []

abbrev three : Program → (ℕ → ℕ × ℕ) → ℕ → ℕ → Location → Bool → Bool → Bool → List Edge
three p by u t L a b c = edge_of p by Raw u t (one_if a L) ++ (edge_of p by Waw u t (one_if b L) ++ edge_of p by War u t (one_if c L))

three_raw : (p : Program) (by : ℕ → ℕ × ℕ) (u t : ℕ) (L : Location) (a b c : Bool) → count_by is_raw (three p by u t L a b c) ≡ cond a 1 0
three_raw p by u t L true true true = refl
three_raw p by u t L true true false = refl
three_raw p by u t L true false true = refl
three_raw p by u t L true false false = refl
three_raw p by u t L false true true = refl
three_raw p by u t L false true false = refl
three_raw p by u t L false false true = refl
three_raw p by u t L false false false = refl

three_waw : (p : Program) (by : ℕ → ℕ × ℕ) (u t : ℕ) (L : Location) (a b c : Bool) → count_by is_waw (three p by u t L a b c) ≡ cond b 1 0
three_waw p by u t L true true true = refl
three_waw p by u t L true true false = refl
three_waw p by u t L true false true = refl
three_waw p by u t L true false false = refl
three_waw p by u t L false true true = refl
three_waw p by u t L false true false = refl
three_waw p by u t L false false true = refl
three_waw p by u t L false false false = refl

three_war : (p : Program) (by : ℕ → ℕ × ℕ) (u t : ℕ) (L : Location) (a b c : Bool) → count_by is_war (three p by u t L a b c) ≡ cond c 1 0
three_war p by u t L true true true = refl
three_war p by u t L true true false = refl
three_war p by u t L true false true = refl
three_war p by u t L true false false = refl
three_war p by u t L false true true = refl
three_war p by u t L false true false = refl
three_war p by u t L false false true = refl
three_war p by u t L false false false = refl

-- the one place that a test touches
places_of : (first third : Bool) (L : Location) → first_places (map (λ (x : Touch). x.location) (touched first third L)) ≡ L ∷ []
places_of true third L = refl
places_of false true L = ap (λ b. L ∷ cond (not b) (L ∷ []) []) (same_refl L)
places_of false false L = refl

-- ---- the edges of touches that are those of the generated tests

module _ (T : Touches) (by : ℕ → ℕ × ℕ) (p : Program) (k : ℕ) (each : (v : ℕ) → 1 ≤ v → v ≤ k → T v ≡ touches_at v) where
  abbrev W : Tests
  W = writes_in T

  abbrev E : Tests
  E = exposed_in T

  pub writes_as : (v : ℕ) (L : Location) (b : Bool) → 1 ≤ v → v ≤ k → written (touches_at v) L ≡ b → W v L ≡ b
  writes_as v L b low few e = ap (λ ts. written ts L) (each v low few) ∙ e

  reads_as : (v : ℕ) (L : Location) (b : Bool) → 1 ≤ v → v ≤ k → exposed (touches_at v) L ≡ b → E v L ≡ b
  reads_as v L b low few e = ap (λ ts. exposed ts L) (each v low few) ∙ e

  -- a test of the group writes the group's static
  pub writes_own : (v g : ℕ) → 1 ≤ v → v ≤ k → (v - 1) % 2 ≡ 0 → group_of v ≡ g → W v (static_of g) ≡ true
  writes_own v g low few even same = writes_as v (static_of g) true low few (ap (λ h. written (touches_at v) (static_of h)) (sym same) ∙ even_writes v even)

  pub reads_own : (v g : ℕ) → 1 ≤ v → v ≤ k → ((v - 1) % 4 ≡ 0 → ⊥) → group_of v ≡ g → E v (static_of g) ≡ true
  reads_own v g low few later same = reads_as v (static_of g) true low few (ap (λ h. exposed (touches_at v) (static_of h)) (sym same) ∙ later_reads v later)

  -- a test u before t = x + 1 in the suite, seen from the static of the group of t
  abbrev seen : ℕ → Location
  seen x = static_of (group_of (suc x))

  far_writes : (u x : ℕ) → 1 ≤ u → u ≤ x → suc x ≤ k → (group_of u ≡ group_of (suc x) → ⊥) → W u (seen x) ≡ false
  far_writes u x low less few far = writes_as u (seen x) false low (omega (arith, less, few)) (other_writes u (group_of (suc x)) far)

  far_reads : (u x : ℕ) → 1 ≤ u → u ≤ x → suc x ≤ k → (group_of u ≡ group_of (suc x) → ⊥) → E u (seen x) ≡ false
  far_reads u x low less few far = reads_as u (seen x) false low (omega (arith, less, few)) (other_reads u (group_of (suc x)) far)

  -- before the third of a group, all but the first write nothing there
  not_written : (u x : ℕ) → 1 ≤ u → u ≤ x → suc x ≤ k → (suc x - 1) % 4 ≡ 2 → (suc u ≡ x → ⊥) → W u (seen x) ≡ false
  not_written u x low less few third differ = equal_by u x
      (λ same. writes_as u (seen x) false low (omega (arith, less, few)) (odd_writes u (seen x) (omega (arith, third, same))))
      (λ other. far_writes u x low less few (λ e. omega (arith, e, third, less, differ, other, low)))

  -- before the second and the fourth of a group, none but the one right before it writes last
  hidden : (u x : ℕ) → 1 ≤ u → u ≤ x → suc x ≤ k → ((suc x - 1) % 4 ≡ 0 → ⊥) → ((suc x - 1) % 4 ≡ 2 → ⊥) → (u ≡ x → ⊥) → (W u (seen x) && none_between W u (suc x) (seen x)) ≡ false
  hidden u x low less few later other differ = equal_by ((suc x - 1) % 4) 1
      (λ second. and_left _ _ (far_writes u x low less few (λ e. omega (arith, e, second, less, differ, low))))
      (λ fourth. equal_by (suc u) x
      (λ two. and_left _ _ (writes_as u (seen x) false low (omega (arith, less, few)) (odd_writes u (seen x) (omega (arith, two, fourth, later, other)))))
      (λ more. equal_by (suc (suc u)) x
      (λ three. and_right _ _ (some_between W u x (seen x) (omega (arith, three)) (writes_own x (group_of (suc x)) (omega (arith, three)) (omega (arith, few)) (omega (arith, three, fourth, later, other)) (omega (arith, three, fourth, later, other)))))
      (λ most. and_left _ _ (far_writes u x low less few (λ e. omega (arith, e, fourth, later, other, less, differ, more, most, low))))))

  -- of two tests, the first one writes last before the second one, which isn't the first of its group
  last_is : (u x : ℕ) → 1 ≤ u → u ≤ x → suc x ≤ k → ((suc x - 1) % 4 ≡ 0 → ⊥) → (W u (seen x) && none_between W u (suc x) (seen x)) ≡ eqb u (raw_from (suc x))
  last_is u x low less few later =
      let g = group_of (suc x) in
      let L = seen x in
      third_by (suc x)
      (λ third. equal_by (suc u) x
      (λ two.
      let between : none_between W u (suc x) L ≡ true = subst (λ z. none_between W u (suc z) L ≡ true) two (none_two W u L (writes_as (suc u) L false (omega arith) (omega (arith, two, few)) (odd_writes (suc u) L (omega (arith, third, two))))) in
      both _ u (raw_from (suc x)) (suc x - 2) (and_from _ _ (writes_own u g low (omega (arith, less, few)) (omega (arith, third, two, low)) (omega (arith, third, two, low))) between) (raw_third (suc x) third) (omega (arith, two)))
      (λ differ. neither _ u (raw_from (suc x)) (suc x - 2) (and_left _ _ (not_written u x low less few third differ)) (raw_third (suc x) third) (λ e. differ (omega (arith, e, third)))))
      (λ other. equal_by u x
      (λ same.
      let between : none_between W u (suc x) L ≡ true = subst (λ z. none_between W u (suc z) L ≡ true) same (none_near W u L) in
      both _ u (raw_from (suc x)) (suc x - 1) (and_from _ _ (writes_own u g low (omega (arith, same, few)) (omega (arith, later, other, same)) (omega (arith, later, other, same))) between) (raw_other (suc x) later other) (omega (arith, same)))
      (λ differ. neither _ u (raw_from (suc x)) (suc x - 1) (hidden u x low less few later other differ) (raw_other (suc x) later other) (λ e. differ (omega (arith, e)))))

  raw_conflict : (u x : ℕ) → 1 ≤ u → u ≤ x → suc x ≤ k → conflicts W E Raw u (suc x) (seen x) ≡ eqb u (raw_from (suc x))
  raw_conflict u x low less few =
      let t = suc x in
      first_by t
      (λ first. neither _ u (raw_from t) 0 (and_left _ _ (reads_as t (seen x) false (omega arith) few (first_reads t (seen x) first))) (raw_first t first) (λ e. omega (arith, e, low)))
      (λ later. ap (λ b. b && (W u (seen x) && none_between W u t (seen x))) (reads_own t (group_of t) (omega arith) few later refl) ∙ last_is u x low less few later)

  waw_conflict : (u x : ℕ) → 1 ≤ u → u ≤ x → suc x ≤ k → conflicts W E Waw u (suc x) (seen x) ≡ eqb u (waw_from (suc x))
  waw_conflict u x low less few =
      let t = suc x in
      let L = seen x in
      third_by t
      (λ third. equal_by (suc u) x
      (λ two.
      let between : none_between W u t L ≡ true = subst (λ z. none_between W u (suc z) L ≡ true) two (none_two W u L (writes_as (suc u) L false (omega arith) (omega (arith, two, few)) (odd_writes (suc u) L (omega (arith, third, two))))) in
      let own = writes_own u (group_of t) low (omega (arith, less, few)) (omega (arith, third, two, low)) (omega (arith, third, two, low)) in
      both _ u (waw_from t) (t - 2) (and_from _ _ own (and_from _ _ (writes_own t (group_of t) (omega arith) few (omega (arith, third)) refl) between)) (waw_third t third) (omega (arith, two)))
      (λ differ. neither _ u (waw_from t) (t - 2) (and_left _ _ (not_written u x low less few third differ)) (waw_third t third) (λ e. differ (omega (arith, e, third)))))
      (λ other. neither _ u (waw_from t) 0 (first_by t
      (λ first. and_left _ _ (far_writes u x low less few (λ e. omega (arith, e, first, less, low))))
      (λ later. and_right _ _ (and_left _ _ (writes_as t L false (omega arith) few (odd_writes t L (omega (arith, later, other)))))))
      (waw_other t other) (λ e. omega (arith, e, low)))

  war_conflict : (u x : ℕ) → 1 ≤ u → u ≤ x → suc x ≤ k → conflicts W E War u (suc x) (seen x) ≡ eqb u (war_from (suc x))
  war_conflict u x low less few =
      let t = suc x in
      let L = seen x in
      third_by t
      (λ third. equal_by u x
      (λ same.
      let between : none_between W u t L ≡ true = subst (λ z. none_between W u (suc z) L ≡ true) same (none_near W u L) in
      let unwritten = writes_as u L false low (omega (arith, less, few)) (odd_writes u L (omega (arith, third, same))) in
      let read = reads_own u (group_of t) low (omega (arith, less, few)) (λ e. omega (arith, e, third, same)) (omega (arith, third, same, low)) in
      both _ u (war_from t) (t - 1) (and_from _ _ (writes_own t (group_of t) (omega arith) few (omega (arith, third)) refl) (and_from _ _ read (and_from _ _ (ap not unwritten) between))) (war_third t third) (omega (arith, same)))
      (λ differ.
      let unread : E u L ≡ false = equal_by (suc u) x
      (λ two. reads_as u L false low (omega (arith, less, few)) (first_reads u L (omega (arith, third, two))))
      (λ more. far_reads u x low less few (λ e. omega (arith, e, third, less, differ, more, low))) in
      neither _ u (war_from t) (t - 1) (and_right _ _ (and_left _ _ unread)) (war_third t third) (λ e. differ (omega (arith, e)))))
      (λ other. neither _ u (war_from t) 0 (first_by t
      (λ first. and_right _ _ (and_left _ _ (far_reads u x low less few (λ e. omega (arith, e, first, less, low)))))
      (λ later. and_left _ _ (writes_as t L false (omega arith) few (odd_writes t L (omega (arith, later, other))))))
      (war_other t other) (λ e. omega (arith, e, low)))

  touched_at : (t : ℕ) → first_places (map (λ (x : Touch). x.location) (touches_at t)) ≡ static_of (group_of t) ∷ []
  unfolding touches_at
  touched_at t = places_of _ _ (static_of (group_of t))

  kind_is : (q : EdgeKind) (u x s : ℕ) → suc x ≤ k → conflicts W E q u (suc x) (seen x) ≡ eqb u s → conflict_places_in T q u (suc x) ≡ one_if (eqb u s) (seen x)
  unfolding conflict_places_in
  kind_is q u x s few e =
      let places : places_in T (suc x) ≡ seen x ∷ [] = ap (λ ts. first_places (map (λ (y : Touch). y.location) ts)) (each (suc x) (omega arith) few) ∙ touched_at (suc x) in
      ap (filter (λ M. conflicts W E q u (suc x) M)) places ∙ ap (λ b. one_if b (seen x)) e

  between_are : (u x : ℕ) → 1 ≤ u → u ≤ x → suc x ≤ k → edges_between_in p T by u (suc x) ≡ three p by u (suc x) (seen x) (eqb u (raw_from (suc x))) (eqb u (waw_from (suc x))) (eqb u (war_from (suc x)))
  unfolding edges_between_in
  between_are u x low less few =
      let t = suc x in
      let raw = kind_is Raw u x (raw_from t) few (raw_conflict u x low less few) in
      let waw = kind_is Waw u x (waw_from t) few (waw_conflict u x low less few) in
      let war = kind_is War u x (war_from t) few (war_conflict u x low less few) in
      λ j. edge_of p by Raw u t (raw j) ++ (edge_of p by Waw u t (waw j) ++ edge_of p by War u t (war j))

  -- the edges to a test
  abbrev edges_to : ℕ → List Edge
  edges_to t = flat_map (λ u. edges_between_in p T by u t) (range_with_len 1 (t - 1))

  -- how many edges of a kind go to the tests before t
  abbrev raw_before : ℕ → ℕ
  raw_before t = t - 1 - (t + 2) / 4

  abbrev others_before : ℕ → ℕ
  others_before t = t / 4

  raw_grows : (t : ℕ) → 1 ≤ t → t < 1 + k → raw_before t + count_by is_raw (edges_to t) ≡ raw_before (t + 1)
  raw_grows zero low few = absurd (omega (arith, low))
  raw_grows (suc x) low few =
      let t = suc x in
      let one : (u : ℕ) → 1 ≤ u → u < 1 + (t - 1) → count_by is_raw (edges_between_in p T by u t) ≡ cond (eqb u (raw_from t)) 1 0 = λ u l less. ap (count_by is_raw) (between_are u x l (omega (arith, less)) (omega (arith, few))) ∙ three_raw p by u t (seen x) _ _ _ in
      first_by t
      (λ first. omega (arith, first, count_none is_raw (λ u. edges_between_in p T by u t) (raw_from t) 1 (t - 1) one (inl (omega (arith, raw_first t first)))))
      (λ later.
      let bounds : (1 ≤ raw_from t) × (raw_from t < 1 + (t - 1)) = third_by t (λ third. (omega (arith, third, raw_third t third), omega (arith, third, raw_third t third))) (λ other. (omega (arith, later, raw_other t later other), omega (arith, later, raw_other t later other))) in
      omega (arith, later, count_once is_raw (λ u. edges_between_in p T by u t) (raw_from t) 1 (t - 1) one bounds.0 bounds.1))

  waw_grows : (t : ℕ) → 1 ≤ t → t < 1 + k → others_before t + count_by is_waw (edges_to t) ≡ others_before (t + 1)
  waw_grows zero low few = absurd (omega (arith, low))
  waw_grows (suc x) low few =
      let t = suc x in
      let one : (u : ℕ) → 1 ≤ u → u < 1 + (t - 1) → count_by is_waw (edges_between_in p T by u t) ≡ cond (eqb u (waw_from t)) 1 0 = λ u l less. ap (count_by is_waw) (between_are u x l (omega (arith, less)) (omega (arith, few))) ∙ three_waw p by u t (seen x) _ _ _ in
      third_by t
      (λ third. omega (arith, third, count_once is_waw (λ u. edges_between_in p T by u t) (waw_from t) 1 (t - 1) one (omega (arith, third, waw_third t third)) (omega (arith, third, waw_third t third))))
      (λ other. omega (arith, other, count_none is_waw (λ u. edges_between_in p T by u t) (waw_from t) 1 (t - 1) one (inl (omega (arith, waw_other t other)))))

  war_grows : (t : ℕ) → 1 ≤ t → t < 1 + k → others_before t + count_by is_war (edges_to t) ≡ others_before (t + 1)
  war_grows zero low few = absurd (omega (arith, low))
  war_grows (suc x) low few =
      let t = suc x in
      let one : (u : ℕ) → 1 ≤ u → u < 1 + (t - 1) → count_by is_war (edges_between_in p T by u t) ≡ cond (eqb u (war_from t)) 1 0 = λ u l less. ap (count_by is_war) (between_are u x l (omega (arith, less)) (omega (arith, few))) ∙ three_war p by u t (seen x) _ _ _ in
      third_by t
      (λ third. omega (arith, third, count_once is_war (λ u. edges_between_in p T by u t) (war_from t) 1 (t - 1) one (omega (arith, third, war_third t third)) (omega (arith, third, war_third t third))))
      (λ other. omega (arith, other, count_none is_war (λ u. edges_between_in p T by u t) (war_from t) 1 (t - 1) one (inl (omega (arith, war_other t other)))))

  pub raw_count : length p.tests ≡ k → count_by is_raw (edges_in p T by) ≡ k - group_count k
  unfolding edges_in
  raw_count tests = ap (λ n. count_by is_raw (flat_map edges_to (range_with_len 1 n))) tests ∙ omega (arith, count_grown is_raw edges_to raw_before 1 k raw_grows)

  pub waw_count : length p.tests ≡ k → count_by is_waw (edges_in p T by) ≡ (k + 1) / 4
  unfolding edges_in
  waw_count tests = ap (λ n. count_by is_waw (flat_map edges_to (range_with_len 1 n))) tests ∙ omega (arith, count_grown is_waw edges_to others_before 1 k waw_grows)

  pub war_count : length p.tests ≡ k → count_by is_war (edges_in p T by) ≡ (k + 1) / 4
  unfolding edges_in
  war_count tests = ap (λ n. count_by is_war (flat_map edges_to (range_with_len 1 n))) tests ∙ omega (arith, count_grown is_war edges_to others_before 1 k war_grows)
