-- The record of a program is in a record's form: units, the order of edges, and their numbers.
use Rattle.std.proofs.Common.{◌≡◌, ℕ, zero, suc, ◌+◌, ◌-◌, ◌<◌, ◌≤◌, Bool, true, not, ◌&&◌, nat_eq, nat_lt, nat_le, List, [], ◌∷◌, ◌++◌, map, filter, flat_map, length, slice_get, refl, sym, ◌∙◌, ap, subst, inl, inr, arith, Option, Some, None}
use Rattle.std.specs.List.{range_with_len, list_all}
use Rattle.std.proofs.lemmas.Bool.{cases_Bool, and_from, and_parts, or_left, or_right, eq-eqb, lt-ltb, le-leb, leb-true}
use Rattle.std.proofs.lemmas.List.{length-map, FromFn.length-range_with_len}
use Rattle.jvm_model.specs.declared.{values.Location.Location, values.Touch.Touch, values.Kind.Kind, program.Program.Program}
use Rattle.jvm_model.specs.{World.same, Builtin.builtin_count, State.test_at, Linked.IsGiven}
use Rattle.jvm_model.specs.Suite.{Given, runs, all_tests, seq, is_detected, suite_limit, within_limit, units_of, outcome_in, given_by_test}
use Rattle.order_law.specs.declared.edges.{Edge.Edge, EdgeKind.EdgeKind, EdgeKind.TheVariants.Raw, EdgeKind.TheVariants.Waw, EdgeKind.TheVariants.War}
use Rattle.order_law.specs.{Conflicts.Member, Histories.Touches, Histories.writes_in, Histories.exposed_in}
use Rattle.order_law.specs.OwnRecord.{conflicts, first_places, places_in, conflict_places_in, edge_of, edges_between_in, edges_in}
use Rattle.order_law.specs.RecordForm.{kind_number, edge_before, edges_ascend, numbers_ascend}
use Rattle.order_law.specs.Reach.{units_in, ReachesIn, own, touched, mentioned}
use Rattle.order_law.specs.OwnForm.{UnitsLaw, IsCounted, OrderedLaw, CountedLaw, ReachLaw}
use Rattle.order_law.proofs.{Members.member_either, Members.member_flat_map, OwnRecord.range_within}

-- units
few_units : (xs : List Given) (i : ℕ) → units_in (outcome_in (slice_get xs i)) ≤ units_of xs
few_units (x ∷ xs) (suc i) = let h = few_units xs i in omega arith
few_units _ _ = omega arith

all_mapped : {A : Type 0} (f : A → ℕ) (g : ℕ → Bool) (xs : List A) → ((x : A) → g (f x) ≡ true) → list_all g (map f xs) ≡ true
all_mapped f g [] h = refl
all_mapped f g (x ∷ xs) h = and_from (g (f x)) (list_all g (map f xs)) (h x) (all_mapped f g xs h)

within : (o : Option (List Given)) (t : ℕ) → within_limit o ≡ true → units_in (outcome_in (given_by_test o t)) ≤ 67108864
unfolding suite_limit
within None t e = absurd (cc)
within (Some xs) t e = let h = few_units xs (t - 1) in let k = leb-true (units_of xs) 67108864 e in omega arith

pub units_law : UnitsLaw
unfolding is_detected seq
units_law p linked detected =
    let few = linked.few_tests in
    let n = length-map (all_tests p) (λ t. units_in (seq p t)) ∙ length-range_with_len 1 (length p.tests) in
    and_from (nat_le (length (map (λ t. units_in (seq p t)) (all_tests p))) 1024) (list_all (λ u. nat_le u 67108864) (map (λ t. units_in (seq p t)) (all_tests p)))
    (le-leb _ _ (omega arith))
    (all_mapped (λ t. units_in (seq p t)) (λ u. nat_le u 67108864) (all_tests p) (λ t. le-leb _ _ (within (runs p (all_tests p)) t detected)))

-- lists of edges of which each of the first comes before each of the second
ascends_append : (xs ys : List Edge) → edges_ascend xs ≡ true → edges_ascend ys ≡ true → ((x y : Edge) → Member x xs → Member y ys → edge_before x y ≡ true) → edges_ascend (xs ++ ys) ≡ true
ascends_append [] ys a b h = b
ascends_append (x ∷ []) [] a b h = refl
ascends_append (x ∷ []) (y ∷ ys) a b h = and_from (edge_before x y) (edges_ascend (y ∷ ys)) (h x y (inl refl) (inl refl)) b
ascends_append (x ∷ z ∷ xs) ys a b h =
    let q = and_parts (edge_before x z) (edges_ascend (z ∷ xs)) a in
    and_from (edge_before x z) (edges_ascend (z ∷ (xs ++ ys))) q.0 (ascends_append (z ∷ xs) ys q.1 b (λ c d i j. h c d (inr i) j))

ascends_range : (f : ℕ → List Edge) (key : Edge → ℕ) (n a : ℕ) → ((x : ℕ) → edges_ascend (f x) ≡ true) → ((x : ℕ) (e : Edge) → Member e (f x) → key e ≡ x) →
    ((x y : ℕ) (d e : Edge) → Member d (f x) → Member e (f y) → key d < key e → edge_before d e ≡ true) → edges_ascend (flat_map f (range_with_len a n)) ≡ true
ascends_range f key zero a g k h = refl
ascends_range f key (suc n) a g k h = ascends_append (f a) (flat_map f (range_with_len (a + 1) n)) (g a) (ascends_range f key n (a + 1) g k h) (λ d e i j.
    let r = member_flat_map f (range_with_len (a + 1) n) e j in
    let w = range_within n (a + 1) r.0 r.1 in
    let lo = w.0 in
    let u = k a d i in
    let v = k r.0 e r.2 in
    h a r.0 d e i r.2 (omega arith))

later_before : (d e : Edge) → d.later < e.later → edge_before d e ≡ true
later_before d e h = or_left (nat_lt d.later e.later) _ (lt-ltb d.later e.later h)

earlier_before : (d e : Edge) → d.later ≡ e.later → d.earlier < e.earlier → edge_before d e ≡ true
earlier_before d e g h = or_right (nat_lt d.later e.later) _ (and_from (nat_eq d.later e.later) _ (eq-eqb d.later e.later g) (or_left (nat_lt d.earlier e.earlier) _ (lt-ltb d.earlier e.earlier h)))

kind_before : (d e : Edge) → d.later ≡ e.later → d.earlier ≡ e.earlier → kind_number d.kind < kind_number e.kind → edge_before d e ≡ true
kind_before d e g k h = or_right (nat_lt d.later e.later) _ (and_from (nat_eq d.later e.later) _ (eq-eqb d.later e.later g) (or_right (nat_lt d.earlier e.earlier) _
    (and_from (nat_eq d.earlier e.earlier) _ (eq-eqb d.earlier e.earlier k) (lt-ltb (kind_number d.kind) (kind_number e.kind) h))))

-- a list is not longer where some of it is left out
filter_few : {A : Type 0} (f : A → Bool) (xs : List A) → length (filter f xs) ≤ length xs
filter_few f [] = omega arith
filter_few f (x ∷ xs) = let h = filter_few f xs in elim (cases_Bool (f x)) [ inl b ↦ rw b (omega arith) | inr b ↦ rw b (omega arith) ]

first_few : (ls : List Location) → length (first_places ls) ≤ length ls
first_few [] = omega arith
first_few (L ∷ ls) = let h = first_few ls in let k = filter_few (λ M. not (same L M)) (first_places ls) in omega arith

module _ (p : Program) (T : Touches) (by : ℕ → ℕ × ℕ) where
  -- an edge for these locations
  record IsEdgeOf (k : EdgeKind) (u t : ℕ) (ls : List Location) (e : Edge) : Type 0 where
    kind : e.kind ≡ k
    earlier : e.earlier ≡ u
    later : e.later ≡ t
    count : e.count ≡ length ls
    some : 1 ≤ e.count

  edge_is : (k : EdgeKind) (u t : ℕ) (ls : List Location) (e : Edge) → Member e (edge_of p by k u t ls) → IsEdgeOf k u t ls e
  edge_is k u t [] e i = absurd i
  edge_is k u t (L ∷ ls) e i = elim i [
    | inl g ↦
        let c : e.count ≡ suc (length ls) = ap (λ (z : Edge). z.count) g in
        record { kind = ap (λ (z : Edge). z.kind) g; earlier = ap (λ (z : Edge). z.earlier) g; later = ap (λ (z : Edge). z.later) g; count = c; some = omega arith }
    | inr n ↦ absurd n
  ]

  one_edge : (k : EdgeKind) (u t : ℕ) (ls : List Location) → edges_ascend (edge_of p by k u t ls) ≡ true
  one_edge k u t [] = refl
  one_edge k u t (L ∷ ls) = refl

  abbrev of_kind : EdgeKind → ℕ → ℕ → List Edge
  of_kind k u t = edge_of p by k u t (conflict_places_in T k u t)

  record IsBetween (u t : ℕ) (e : Edge) : Type 0 where
    earlier : e.earlier ≡ u
    later : e.later ≡ t
    some : 1 ≤ e.count
    few : e.count ≤ length (T t)

  few_places : (k : EdgeKind) (u t : ℕ) → length (conflict_places_in T k u t) ≤ length (T t)
  unfolding conflict_places_in
  few_places k u t =
      let a = filter_few (λ L. conflicts (writes_in T) (exposed_in T) k u t L) (places_in T t) in
      let b = first_few (map (λ (x : Touch). x.location) (T t)) in
      let c = length-map (T t) (λ (x : Touch). x.location) in
      omega arith

  between_kind : (k : EdgeKind) (u t : ℕ) (e : Edge) → Member e (of_kind k u t) → IsBetween u t e
  between_kind k u t e i =
      let q = edge_is k u t (conflict_places_in T k u t) e i in
      let c = q.count in
      let f = few_places k u t in
      record { earlier = q.earlier; later = q.later; some = q.some; few = omega arith }

  between : (u t : ℕ) (e : Edge) → Member e (edges_between_in p T by u t) → IsBetween u t e
  unfolding edges_between_in
  between u t e i = elim (member_either (of_kind Raw u t) (of_kind Waw u t ++ of_kind War u t) e i) [
    | inl j ↦ between_kind Raw u t e j
    | inr j ↦ elim (member_either (of_kind Waw u t) (of_kind War u t) e j) [ inl k ↦ between_kind Waw u t e k | inr k ↦ between_kind War u t e k ]
  ]

  kinds_before : (k l : EdgeKind) (u t : ℕ) → kind_number k < kind_number l → (d e : Edge) → Member d (of_kind k u t) → Member e (of_kind l u t) → edge_before d e ≡ true
  kinds_before k l u t h d e i j =
      let x = edge_is k u t (conflict_places_in T k u t) d i in
      let y = edge_is l u t (conflict_places_in T l u t) e j in
      kind_before d e (x.later ∙ sym y.later) (x.earlier ∙ sym y.earlier) (subst (λ (z : EdgeKind). kind_number z < kind_number e.kind) (sym x.kind) (subst (λ (z : EdgeKind). kind_number k < kind_number z) (sym y.kind) h))

  between_ascends : (u t : ℕ) → edges_ascend (edges_between_in p T by u t) ≡ true
  unfolding edges_between_in
  between_ascends u t = ascends_append (of_kind Raw u t) (of_kind Waw u t ++ of_kind War u t) (one_edge Raw u t _)
      (ascends_append (of_kind Waw u t) (of_kind War u t) (one_edge Waw u t _) (one_edge War u t _) (kinds_before Waw War u t (omega arith)))
      (λ d e i j. elim (member_either (of_kind Waw u t) (of_kind War u t) e j) [ inl k ↦ kinds_before Raw Waw u t (omega arith) d e i k | inr k ↦ kinds_before Raw War u t (omega arith) d e i k ])

  abbrev to_test : ℕ → List Edge
  to_test t = flat_map (λ u. edges_between_in p T by u t) (range_with_len 1 (t - 1))

  to_later : (t : ℕ) (e : Edge) → Member e (to_test t) → (u : ℕ) × Member u (range_with_len 1 (t - 1)) × IsBetween u t e
  to_later t e i = let r = member_flat_map (λ u. edges_between_in p T by u t) (range_with_len 1 (t - 1)) e i in (r.0, r.1, between r.0 t e r.2)

  ascends_to : (t : ℕ) → edges_ascend (to_test t) ≡ true
  ascends_to t = ascends_range (λ u. edges_between_in p T by u t) (λ e. e.earlier) (t - 1) 1 (λ u. between_ascends u t) (λ u e i. (between u t e i).earlier)
      (λ u v d e i j h. earlier_before d e ((between u t d i).later ∙ sym (between v t e j).later) h)

  ordered : edges_ascend (edges_in p T by) ≡ true
  unfolding edges_in
  ordered = ascends_range to_test (λ e. e.later) (length p.tests) 1 ascends_to (λ t e i. (to_later t e i).2.later) (λ t s d e i j h. later_before d e h)

  counted : (e : Edge) → Member e (edges_in p T by) → IsCounted T (length p.tests) e
  unfolding edges_in
  counted e i =
      let r = member_flat_map to_test (all_tests p) e i in
      let q = to_later r.0 e r.2 in
      let b = q.2 in
      let w = range_within (length p.tests) 1 r.0 r.1 in
      let v = range_within (r.0 - 1) 1 q.0 q.1 in
      let w0 = w.0 in let w1 = w.1 in let v0 = v.0 in let v1 = v.1 in let x = b.earlier in let y = b.later in
      record { first = omega arith; rises = omega arith; last = omega arith; some = b.some; few = subst (λ (z : ℕ). e.count ≤ length (T z)) (sym b.later) b.few }

pub ordered_law : OrderedLaw
ordered_law p T by = ordered p T by

pub counted_law : CountedLaw
counted_law p T by e i = counted p T by e i

-- reaches
reached_given : (p : Program) (T : Touches) (kinds : ℕ → ℕ → Kind) (t : ℕ) {c : ℕ} → ReachesIn p T kinds t c → IsGiven p c
reached_given p T kinds t (own g) = g
reached_given p T kinds t (touched o m i g) = g
reached_given p T kinds t (mentioned r m g) = g

some_there : (x : ℕ) (xs : List ℕ) → Member x xs → 1 ≤ length xs
some_there x [] i = absurd i
some_there x (y ∷ xs) i = omega arith

all_members : (g : ℕ → Bool) (xs : List ℕ) → ((x : ℕ) → Member x xs → g x ≡ true) → list_all g xs ≡ true
all_members g [] h = refl
all_members g (x ∷ xs) h = and_from (g x) (list_all g xs) (h x (inl refl)) (all_members g xs (λ y i. h y (inr i)))

pub reach_law : ReachLaw
reach_law p T kinds t r linked low reach =
    let lo = low.0 in
    let hi = low.1 in
    let g : IsGiven p (test_at p t).class = (linked.tests (t - 1) _ (omega arith)).given in
    let a = g.0 in
    let e : (test_at p t).class - 31 + 31 ≡ (test_at p t).class = omega arith in
    let i = (reach.classes ((test_at p t).class - 31)).1 (subst (λ (c : ℕ). ReachesIn p T kinds t c) (sym e) (own g)) in
    let within = (λ (x : ℕ) (m : Member x r.classes).
    let h = reached_given p T kinds t ((reach.classes x).0 m) in
    let b = h.0 in
    let c = h.1 in
    and_from (nat_le 1 x) (nat_le x (length p.classes - builtin_count)) (le-leb 1 x (omega arith)) (le-leb x (length p.classes - builtin_count) (omega arith))) in
    and_from (nat_le 1 (length r.classes)) _ (le-leb 1 (length r.classes) (some_there _ r.classes i))
    (and_from (list_all (λ x. nat_le 1 x && nat_le x (length p.classes - builtin_count)) r.classes) (numbers_ascend r.classes) (all_members _ r.classes within) reach.ascending)
