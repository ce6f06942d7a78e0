-- The computed edges are there exactly where there is a conflict.
use Rattle.std.proofs.Common.{◌≡◌, ◌⊎◌, ℕ, zero, suc, ◌+◌, ◌-◌, ◌<◌, ◌≤◌, Bool, true, false, not, ◌&&◌, ◌||◌, cond, List, [], ◌∷◌, map, filter, flat_map, length, refl, sym, ◌∙◌, ap, subst, inl, inr, arith}
use Rattle.std.specs.List.{range_with_len}
use Rattle.std.proofs.lemmas.Bool.{cases_Bool, cases_lt, cases_eq, lt-ltb, le-ltb, and_parts, and_from, or_cases, not-true, not_from_false}
use Rattle.jvm_model.specs.{declared.values.Location.Location, declared.values.Touch.Touch, declared.program.Program.Program, World.same, Suite.all_tests}
use Rattle.jvm_model.proofs.Locations.{same_true}
use Rattle.order_law.specs.declared.edges.{Edge.Edge, EdgeKind.EdgeKind, EdgeKind.TheVariants.Raw, EdgeKind.TheVariants.Waw, EdgeKind.TheVariants.War}
use Rattle.order_law.specs.{Exposed.written, Exposed.exposed, Histories.Touches, Histories.touches_of, Histories.writes_in, Histories.exposed_in}
use Rattle.order_law.specs.Conflicts.{Tests, Member, NoneBetween, Conflict, HasEdge, IsRecord}
use Rattle.order_law.specs.OwnRecord.{none_between, conflicts, first_places, places_in, conflict_places_in, owner, edge_of, edges_between_in, edges_of, edges_in, OwnLaw}
use Rattle.order_law.proofs.{Members.edge_left, Members.edge_right, Members.edge_either, Histories.law_of_order}

between-true : (W : Tests) (u t : ℕ) (L : Location) → none_between W u t L ≡ true → NoneBetween W u t L
between-true W u zero L e x lo hi = absurd (omega arith)
between-true W u (suc t) L e x lo hi = elim (cases_lt u t) [
  | inl h ↦ let b = lt-ltb u t h in
      let q = and_parts (not (W t L)) (none_between W u t L) (sym (cond_true _ b) ∙ e) in
      elim (cases_eq x t) [ inl g ↦ subst (λ (y : ℕ). W y L ≡ false) (sym g) (not-true (W t L) q.0) | inr n ↦ between-true W u t L q.1 x lo (omega arith) ]
  | inr h ↦ absurd (omega arith)
]
  where
    cond_true : {b : Bool} (x : Bool) → b ≡ true → cond b x true ≡ x
    cond_true x e = rw e

between-from : (W : Tests) (u t : ℕ) (L : Location) → NoneBetween W u t L → none_between W u t L ≡ true
between-from W u zero L f = refl
between-from W u (suc t) L f = elim (cases_lt u t) [
  | inl h ↦ let b = lt-ltb u t h in
      let q = and_from (not (W t L)) (none_between W u t L) (not_from_false (W t L) (f t h (omega arith))) (between-from W u t L (λ x lo hi. f x lo (omega arith))) in rw b q
  | inr h ↦ let b = le-ltb u t h in rw b
]

conflicts-true : (W E : Tests) (k : EdgeKind) (u t : ℕ) (L : Location) → u < t → conflicts W E k u t L ≡ true → Conflict W E k u t L
conflicts-true W E Raw u t L h e = let a = and_parts (E t L) _ e in let b = and_parts (W u L) _ a.1 in (h, a.0, b.0, between-true W u t L b.1)
conflicts-true W E Waw u t L h e = let a = and_parts (W u L) _ e in let b = and_parts (W t L) _ a.1 in (h, a.0, b.0, between-true W u t L b.1)
conflicts-true W E War u t L h e = let a = and_parts (W t L) _ e in let b = and_parts (E u L) _ a.1 in let c = and_parts (not (W u L)) _ b.1 in (h, a.0, b.0, not-true (W u L) c.0, between-true W u t L c.1)

conflicts-from : (W E : Tests) (k : EdgeKind) (u t : ℕ) (L : Location) → Conflict W E k u t L → conflicts W E k u t L ≡ true
conflicts-from W E Raw u t L c = and_from (E t L) _ c.1 (and_from (W u L) _ c.2 (between-from W u t L c.3))
conflicts-from W E Waw u t L c = and_from (W u L) _ c.1 (and_from (W t L) _ c.2 (between-from W u t L c.3))
conflicts-from W E War u t L c = and_from (W t L) _ c.1 (and_from (E u L) _ c.2 (and_from (not (W u L)) _ (not_from_false (W u L) c.3) (between-from W u t L c.4)))

-- members of filtered lists
filter_in : {A : Type 0} (f : A → Bool) (xs : List A) (x : A) → Member x xs → f x ≡ true → Member x (filter f xs)
filter_in f [] x i e = absurd i
filter_in f (y ∷ xs) x i e = elim (cases_Bool (f y)) [
  | inl b ↦ rw b (elim i [ inl g ↦ inl g | inr j ↦ inr (filter_in f xs x j e) ])
  | inr b ↦ rw b (elim i [ inl g ↦ absurd (let z = ap f g in cc) | inr j ↦ filter_in f xs x j e ])
]

kept_both : {A : Type 0} (f : A → Bool) (b : Bool) (x y : A) (xs ys : List A) → f y ≡ b → Member x (cond b (y ∷ ys) ys) → (Member x ys → Member x xs × (f x ≡ true)) → Member x (y ∷ xs) × (f x ≡ true)
kept_both f true x y xs ys e i k = elim i [ inl g ↦ (inl g, ap f g ∙ e) | inr j ↦ (inr (k j).0, (k j).1) ]
kept_both f false x y xs ys e i k = (inr (k i).0, (k i).1)

pub filter_both : {A : Type 0} (f : A → Bool) (xs : List A) (x : A) → Member x (filter f xs) → Member x xs × (f x ≡ true)
filter_both f [] x i = absurd i
filter_both f (y ∷ xs) x i = kept_both f (f y) x y xs (filter f xs) refl i (λ j. filter_both f xs x j)

pub first_in : (ls : List Location) (L : Location) → Member L ls → Member L (first_places ls)
first_in [] L i = absurd i
first_in (M ∷ ls) L i = elim i [
  | inl e ↦ inl e
  | inr j ↦ elim (cases_Bool (same M L)) [
    | inl s ↦ inl (sym (same_true M L s))
    | inr s ↦ inr (filter_in (λ N. not (same M N)) (first_places ls) L (first_in ls L j) (not_from_false (same M L) s))
  ]
]

pub touched : (ts : List Touch) (L : Location) → (written ts L ≡ true) ⊎ (exposed ts L ≡ true) → Member L (map (λ (x : Touch). x.location) ts)
touched [] L e = absurd (elim e [ inl a ↦ (cc) | inr a ↦ (cc) ])
touched (x ∷ ts) L e = at_write x.write (same L x.location) (written ts L) (exposed ts L) e (λ s. inl (same_true L x.location s)) (λ r. inr (touched ts L r))
  where
    at_write : (w s a b : Bool) → (cond w (s || a) a ≡ true) ⊎ (cond w (not s && b) (s || b) ≡ true) → (s ≡ true → Member L (map (λ (x : Touch). x.location) (x ∷ ts))) →
        ((a ≡ true) ⊎ (b ≡ true) → Member L (map (λ (x : Touch). x.location) (x ∷ ts))) → Member L (map (λ (x : Touch). x.location) (x ∷ ts))
    at_write true s a b e f g = elim e [ inl y ↦ elim (or_cases s a y) [ inl z ↦ f z | inr z ↦ g (inl z) ] | inr y ↦ g (inr (and_parts (not s) b y).1) ]
    at_write false s a b e f g = elim e [ inl y ↦ g (inl y) | inr y ↦ elim (or_cases s b y) [ inl z ↦ f z | inr z ↦ g (inr z) ] ]

-- edges of lists put together
gathered : (f : ℕ → List Edge) (xs : List ℕ) (k : EdgeKind) (u t : ℕ) → HasEdge (flat_map f xs) k u t → (x : ℕ) × Member x xs × HasEdge (f x) k u t
gathered f [] k u t i = absurd i
gathered f (x ∷ xs) k u t i = elim (edge_either (f x) (flat_map f xs) k u t i) [ inl j ↦ (x, inl refl, j) | inr j ↦ let r = gathered f xs k u t j in (r.0, inr r.1, r.2) ]

gather_in : (f : ℕ → List Edge) (xs : List ℕ) (k : EdgeKind) (u t x : ℕ) → Member x xs → HasEdge (f x) k u t → HasEdge (flat_map f xs) k u t
gather_in f [] k u t x i j = absurd i
gather_in f (y ∷ xs) k u t x i j = elim i [
  | inl g ↦ edge_left (f y) (flat_map f xs) k u t (subst (λ (z : ℕ). HasEdge (f z) k u t) g j)
  | inr m ↦ edge_right (f y) (flat_map f xs) k u t (gather_in f xs k u t x m j)
]

pub in_range : (n a x : ℕ) → a ≤ x → x < a + n → Member x (range_with_len a n)
in_range zero a x lo hi = absurd (omega arith)
in_range (suc n) a x lo hi = elim (cases_eq x a) [ inl e ↦ inl e | inr ne ↦ inr (in_range n (a + 1) x (omega arith) (omega arith)) ]

pub range_within : (n a x : ℕ) → Member x (range_with_len a n) → (a ≤ x) × (x < a + n)
range_within zero a x i = absurd i
range_within (suc n) a x i = elim i [ inl e ↦ (omega arith, omega arith) | inr j ↦ let r = range_within n (a + 1) x j in let lo = r.0 in let hi = r.1 in (omega arith, omega arith) ]

module _ (p : Program) (T : Touches) (by : ℕ → ℕ × ℕ) where
  edge_of_has : (k : EdgeKind) (u t : ℕ) (L : Location) (ls : List Location) → Member L ls → HasEdge (edge_of p by k u t ls) k u t
  edge_of_has k u t L [] i = absurd i
  edge_of_has k u t L (M ∷ ls) i = inl (refl, refl, refl)

  record EdgeIs (k : EdgeKind) (u t : ℕ) (k' : EdgeKind) (u' t' : ℕ) (ls : List Location) : Type 0 where
    kind : k' ≡ k
    earlier : u' ≡ u
    later : t' ≡ t
    place : Location
    listed : Member place ls

  edge_of_is : (k k' : EdgeKind) (u t u' t' : ℕ) (ls : List Location) → HasEdge (edge_of p by k' u' t' ls) k u t → EdgeIs k u t k' u' t' ls
  edge_of_is k k' u t u' t' [] i = absurd i
  edge_of_is k k' u t u' t' (L ∷ ls) i = elim i [ inl e ↦ record { kind = e.0; earlier = e.1; later = e.2; place = L; listed = inl refl } | inr j ↦ absurd j ]

  -- a listed location is one of a conflict, and the other way round
  place_true : (k : EdgeKind) (u t : ℕ) (L : Location) → u < t → Member L (conflict_places_in T k u t) → Conflict (writes_in T) (exposed_in T) k u t L
  unfolding conflict_places_in
  place_true k u t L h i = conflicts-true (writes_in T) (exposed_in T) k u t L h (filter_both (λ L. conflicts (writes_in T) (exposed_in T) k u t L) (places_in T t) L i).1

  is_touched : (k : EdgeKind) (u t : ℕ) (L : Location) → Conflict (writes_in T) (exposed_in T) k u t L → Member L (places_in T t)
  is_touched Raw u t L c = first_in _ L (touched (T t) L (inr c.1))
  is_touched Waw u t L c = first_in _ L (touched (T t) L (inl c.2))
  is_touched War u t L c = first_in _ L (touched (T t) L (inl c.1))

  place_in : (k : EdgeKind) (u t : ℕ) (L : Location) → Conflict (writes_in T) (exposed_in T) k u t L → Member L (conflict_places_in T k u t)
  unfolding conflict_places_in
  place_in k u t L c = filter_in (λ L. conflicts (writes_in T) (exposed_in T) k u t L) (places_in T t) L (is_touched k u t L c) (conflicts-from (writes_in T) (exposed_in T) k u t L c)

  rises : (k : EdgeKind) (u t : ℕ) (L : Location) → Conflict (writes_in T) (exposed_in T) k u t L → u < t
  rises Raw u t L c = c.0
  rises _ u t L c = c.0

  abbrev of_kind : EdgeKind → ℕ → ℕ → List Edge
  of_kind k u t = edge_of p by k u t (conflict_places_in T k u t)

  found : (k k' : EdgeKind) (u t u' t' : ℕ) → 0 < u' → u' < t' → t' ≤ length p.tests → HasEdge (of_kind k' u' t') k u t →
      (0 < u) × (t ≤ length p.tests) × (L : Location) × Conflict (writes_in T) (exposed_in T) k u t L
  found k k' u t u' t' o h lt i =
      let q = edge_of_is k k' u t u' t' (conflict_places_in T k' u' t') i in
      let c = place_true k' u' t' q.place h q.listed in
      let e = q.earlier in
      let l = q.later in (
        omega arith,
        omega arith,
        q.place,
        subst (λ (z : EdgeKind). Conflict (writes_in T) (exposed_in T) z u t q.place) q.kind
            (subst (λ (z : ℕ). Conflict (writes_in T) (exposed_in T) k' z t q.place) e (subst (λ (z : ℕ). Conflict (writes_in T) (exposed_in T) k' u' z q.place) l c)),
      )

  edge_here : (k : EdgeKind) (u t : ℕ) → HasEdge (of_kind k u t) k u t → HasEdge (edges_between_in p T by u t) k u t
  unfolding edges_between_in
  edge_here Raw u t h = edge_left (of_kind Raw u t) _ Raw u t h
  edge_here Waw u t h = edge_right (of_kind Raw u t) _ Waw u t (edge_left (of_kind Waw u t) _ Waw u t h)
  edge_here War u t h = edge_right (of_kind Raw u t) _ War u t (edge_right (of_kind Waw u t) _ War u t h)

  found_between : (k : EdgeKind) (u t u' t' : ℕ) → 0 < u' → u' < t' → t' ≤ length p.tests → HasEdge (edges_between_in p T by u' t') k u t →
      (0 < u) × (t ≤ length p.tests) × (L : Location) × Conflict (writes_in T) (exposed_in T) k u t L
  unfolding edges_between_in
  found_between k u t u' t' o h lt i = elim (edge_either (of_kind Raw u' t') _ k u t i) [
    | inl x ↦ found k Raw u t u' t' o h lt x
    | inr y ↦ elim (edge_either (of_kind Waw u' t') _ k u t y) [ inl x ↦ found k Waw u t u' t' o h lt x | inr x ↦ found k War u t u' t' o h lt x ]
  ]

  pub is_record : IsRecord (writes_in T) (exposed_in T) (length p.tests) (edges_in p T by)
  unfolding edges_in
  is_record k u t = (
    λ i.
        let a = gathered (λ t. flat_map (λ u. edges_between_in p T by u t) (range_with_len 1 (t - 1))) (all_tests p) k u t i in
        let b = gathered (λ u. edges_between_in p T by u a.0) (range_with_len 1 (a.0 - 1)) k u t a.2 in
        let x = range_within (length p.tests) 1 a.0 a.1 in
        let y = range_within (a.0 - 1) 1 b.0 b.1 in
        let x0 = x.0 in let x1 = x.1 in let y0 = y.0 in let y1 = y.1 in
        found_between k u t b.0 a.0 (omega arith) (omega arith) (omega arith) b.2,
    λ c.
        let h = rises k u t c.2 c.3 in
        let o = c.0 in let lt = c.1 in
        gather_in (λ t. flat_map (λ u. edges_between_in p T by u t) (range_with_len 1 (t - 1))) (all_tests p) k u t t (in_range (length p.tests) 1 t (omega arith) (omega arith))
        (gather_in (λ u. edges_between_in p T by u t) (range_with_len 1 (t - 1)) k u t u (in_range (t - 1) 1 u (omega arith) (omega arith))
        (edge_here k u t (edge_of_has k u t c.2 (conflict_places_in T k u t) (place_in k u t c.2 c.3)))),
  )

pub own_law : OwnLaw
own_law p l linked detected low lawful = law_of_order p (edges_of p) l linked detected (is_record p (touches_of p) (owner p)) low lawful
