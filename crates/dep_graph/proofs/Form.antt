-- The edges of a record's form, in their order.
use Rattle.std.proofs.Common.{◌≡◌, ◌⊎◌, ℕ, zero, suc, ◌<◌, ◌≤◌, ◌^◌, true, ◌&&◌, ◌||◌, nat_eq, nat_lt, nat_le, List, [], ◌∷◌, length, take, drop, refl, sym, subst, inl, inr, arith}
use Rattle.std.specs.List.{list_all}
use Rattle.std.proofs.lemmas.Bool.{and_parts, or_cases, ltb-true, leb-true, eqb-true}
use Rattle.order_law.specs.{declared.edges.Edge.Edge, declared.edges.EdgeKind.EdgeKind, Conflicts.HasEdge}
use Rattle.order_law.specs.RecordForm.{are_units, is_edge, is_place_text, kind_number, edge_before, edges_ascend, is_record_form}
use Rattle.dep_graph.specs.Graphs.{GoUp, AreOrdered}
use Rattle.dep_graph.proofs.Edges.{edge_dropped}

-- later tests, then earlier ones, then kinds
abbrev Comes : ℕ → ℕ → EdgeKind → ℕ → ℕ → EdgeKind → Type 0
Comes t u j x v k = (t < x) ⊎ ((t ≡ x) × ((u < v) ⊎ ((u ≡ v) × (kind_number j < kind_number k))))

comes_trans : (t u : ℕ) (j : EdgeKind) (x v : ℕ) (k : EdgeKind) (y w : ℕ) (l : EdgeKind) → Comes t u j x v k → Comes x v k y w l → Comes t u j y w l
comes_trans t u j x v k y w l p q = elim p [
  | inl a ↦ elim q [ inl b ↦ inl (omega arith) | inr b ↦ let e = b.0 in inl (omega arith) ]
  | inr a ↦ let d = a.0 in elim q [
    | inl b ↦ inl (omega arith)
    | inr b ↦ let e = b.0 in inr (
      omega arith,
      elim a.1 [
        | inl f ↦ elim b.1 [ inl g ↦ inl (omega arith) | inr g ↦ let h = g.0 in inl (omega arith) ]
        | inr f ↦ let c = f.0 in elim b.1 [ inl g ↦ inl (omega arith) | inr g ↦ let h = g.0 in let m = f.1 in let o = g.1 in inr (omega arith, omega arith) ]
      ],
    )
  ]
]

comes_of : (e f : Edge) → edge_before e f ≡ true → Comes e.later e.earlier e.kind f.later f.earlier f.kind
comes_of e f h = elim (or_cases (nat_lt e.later f.later) _ h) [
  | inl a ↦ inl (ltb-true e.later f.later a)
  | inr b ↦ let p = and_parts (nat_eq e.later f.later) (nat_lt e.earlier f.earlier || (nat_eq e.earlier f.earlier && nat_lt (kind_number e.kind) (kind_number f.kind))) b in
      inr (
        eqb-true e.later f.later p.0,
        elim (or_cases (nat_lt e.earlier f.earlier) (nat_eq e.earlier f.earlier && nat_lt (kind_number e.kind) (kind_number f.kind)) p.1) [
          | inl c ↦ inl (ltb-true e.earlier f.earlier c)
          | inr d ↦ let q = and_parts (nat_eq e.earlier f.earlier) (nat_lt (kind_number e.kind) (kind_number f.kind)) d in inr (eqb-true e.earlier f.earlier q.0, ltb-true (kind_number e.kind) (kind_number f.kind) q.1)
        ],
      )
]

comes_at : (t u : ℕ) (j : EdgeKind) (f : Edge) (k : EdgeKind) (v x : ℕ) → Comes t u j f.later f.earlier f.kind → (f.kind ≡ k) × (f.earlier ≡ v) × (f.later ≡ x) → Comes t u j x v k
comes_at t u j f k v x c e = subst (λ (z : ℕ). Comes t u j z v k) e.2 (subst (λ (z : ℕ). Comes t u j f.later z k) e.1 (subst (λ (z : EdgeKind). Comes t u j f.later f.earlier z) e.0 c))

comes_by : (x v : ℕ) (k : EdgeKind) (e : Edge) (j : EdgeKind) (u t : ℕ) → Comes e.later e.earlier e.kind x v k → (e.kind ≡ j) × (e.earlier ≡ u) × (e.later ≡ t) → Comes t u j x v k
comes_by x v k e j u t c h = subst (λ (z : ℕ). Comes z u j x v k) h.2 (subst (λ (z : ℕ). Comes e.later z j x v k) h.1 (subst (λ (z : EdgeKind). Comes e.later e.earlier z x v k) h.0 c))

first_comes : (e : Edge) (es : List Edge) → edges_ascend (e ∷ es) ≡ true → (k : EdgeKind) (u t : ℕ) → HasEdge es k u t → Comes e.later e.earlier e.kind t u k
first_comes e [] h k u t x = absurd x
first_comes e (f ∷ es) h k u t x =
    let p = and_parts (edge_before e f) (edges_ascend (f ∷ es)) h in
    let c = comes_of e f p.0 in
    elim x [
      | inl y ↦ comes_at e.later e.earlier e.kind f k u t c y
      | inr j ↦ comes_trans e.later e.earlier e.kind f.later f.earlier f.kind t u k c (first_comes f es p.1 k u t j)
    ]

rest_ascends : (e : Edge) (es : List Edge) → edges_ascend (e ∷ es) ≡ true → edges_ascend es ≡ true
rest_ascends e [] h = refl
rest_ascends e (f ∷ es) h = (and_parts (edge_before e f) (edges_ascend (f ∷ es)) h).1

at_seam : (i : ℕ) (R : List Edge) → edges_ascend R ≡ true → (j k : EdgeKind) (u t v x : ℕ) → HasEdge (take i R) j u t → HasEdge (drop i R) k v x → Comes t u j x v k
at_seam zero R a j k u t v x h d = absurd h
at_seam (suc i) [] a j k u t v x h d = absurd h
at_seam (suc i) (e ∷ R) a j k u t v x h d = elim h [
  | inl y ↦ comes_by x v k e j u t (first_comes e R a k v x (edge_dropped i R k v x d)) y
  | inr z ↦ at_seam i R (rest_ascends e R a) j k u t v x z d
]

each_up : (n : ℕ) (R : List Edge) → list_all (λ e. is_edge n e) R ≡ true → GoUp n R
each_up n [] a k u t h = absurd h
each_up n (e ∷ R) a k u t h =
    let p = and_parts (is_edge n e) (list_all (λ f. is_edge n f) R) a in
    elim h [
      | inl y ↦
          let q = and_parts (nat_le 1 e.earlier) (nat_lt e.earlier e.later && (nat_le e.later n && (nat_le 1 e.count && (nat_le e.count (2 ^ 28) && is_place_text e.first)))) p.0 in
          let r = and_parts (nat_lt e.earlier e.later) (nat_le e.later n && (nat_le 1 e.count && (nat_le e.count (2 ^ 28) && is_place_text e.first))) q.1 in
          let s = and_parts (nat_le e.later n) (nat_le 1 e.count && (nat_le e.count (2 ^ 28) && is_place_text e.first)) r.1 in
          let a1 = leb-true 1 e.earlier q.0 in
          let a2 = ltb-true e.earlier e.later r.0 in
          let a3 = leb-true e.later n s.0 in
          let b1 = y.1 in
          let b2 = y.2 in
          (omega arith, omega arith, omega arith)
      | inr z ↦ each_up n R p.1 k u t z
    ]

same_kind : (t u : ℕ) (k : EdgeKind) (v : ℕ) → Comes t u k t v k → u < v
same_kind t u k v c = elim c [ inl a ↦ absurd (omega arith) | inr a ↦ elim a.1 [ inl b ↦ b | inr b ↦ let d = b.1 in absurd (omega arith) ] ]

later_or_same : (t u : ℕ) (j : EdgeKind) (x v : ℕ) (k : EdgeKind) → Comes t u j x v k → t ≤ x
later_or_same t u j x v k c = elim c [ inl a ↦ omega arith | inr a ↦ let e = a.0 in omega arith ]

ordered_from : (n : ℕ) (R : List Edge) → list_all (λ e. is_edge n e) R ≡ true → edges_ascend R ≡ true → AreOrdered n R
ordered_from n R a b = record {
  go_up = each_up n R a;
  later = λ i j k u t v x h d. later_or_same t u j x v k (at_seam i R b j k u t v x h d);
  earlier = λ i k u t v h d. same_kind t u k v (at_seam i R b k k u t v t h d);
}

-- what the form of a record says of its edges
pub form_ordered : (units : List ℕ) (R : List Edge) → is_record_form units R ≡ true → (length units ≤ 1024) × AreOrdered (length units) R
unfolding is_record_form
form_ordered units R h =
    let p = and_parts (are_units units) (list_all (λ e. is_edge (length units) e) R && edges_ascend R) h in
    let q = and_parts (list_all (λ e. is_edge (length units) e) R) (edges_ascend R) p.1 in
    let r = and_parts (nat_le (length units) 1024) (list_all (λ u. nat_le u (2 ^ 26)) units) p.0 in
    (leb-true (length units) 1024 r.0, ordered_from (length units) R q.0 q.1)

pub few_at : (units : List ℕ) (R : List Edge) → is_record_form units R ≡ true → (n : ℕ) → n ≡ length units → n ≤ 1024
few_at units R h n e = let p = (form_ordered units R h).0 in omega arith

pub ordered_at : (units : List ℕ) (R : List Edge) → is_record_form units R ≡ true → (n : ℕ) (S : List Edge) → n ≡ length units → S ≡ R → AreOrdered n S
ordered_at units R h n S e f = subst (λ (m : ℕ). AreOrdered m S) (sym e) (subst (λ (T : List Edge). AreOrdered (length units) T) (sym f) (form_ordered units R h).1)
