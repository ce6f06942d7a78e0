-- The rows after one more edge.
use Rattle.std.proofs.Common.{◌≡◌, ℕ, zero, suc, ◌+◌, ◌/◌, ◌%◌, ◌<◌, ◌≤◌, true, false, ◌&&◌, ◌||◌, nat_eq, List, [], ◌∷◌, ◌++◌, length, take, drop, get_or, sym, ◌∙◌, ap, subst, inl, inr}
use Rattle.std.proofs.lemmas.Bool.{and_parts, and_from, or_cases, or_left, or_right, eqb-true, eq-eqb, true≢false}
use Rattle.std.proofs.{lemmas.List.take_more, lemmas.List.get_or_past, Math.Seq.drop-cons}
use Rattle.order_law.specs.{declared.edges.Edge.Edge, declared.edges.EdgeKind.EdgeKind, Conflicts.HasEdge, Conflicts.Before, Conflicts.edge, Conflicts.chain}
use Rattle.dep_graph.specs.{declared.sets.TestSet.TestSet, Graphs.AreOrdered, Graphs.AreRows, Graphs.nothing, Graphs.has_row, Sets.holds}
use Rattle.dep_graph.proofs.{Bits.empty_held, Edges.edge_taken, Edges.edge_dropped, Edges.before_either, Edges.before_from}

-- the next edge stands in the rest
pub next_edge : (R : List Edge) (i : ℕ) (e : Edge) → i < length R → e ≡ get_or R i e → HasEdge (drop i R) e.kind e.earlier e.later
next_edge R i e lt is = subst (λ (S : List Edge). HasEdge S e.kind e.earlier e.later) (sym (drop-cons R i e lt)) (inl (ap (λ (x : Edge). x.kind) (sym is), ap (λ (x : Edge). x.earlier) (sym is), ap (λ (x : Edge). x.later) (sym is)))

pub one_more : (R : List Edge) (i : ℕ) (e : Edge) → i < length R → e ≡ get_or R i e → take (i + 1) R ≡ take i R ++ (e ∷ [])
one_more R i e lt is = take_more R i e lt ∙ ap (λ (x : Edge). take i R ++ (x ∷ [])) (sym is)

module _ (n : ℕ) (R : List Edge) (o : AreOrdered n R) (i : ℕ) (e : Edge) (lt : i < length R) (is : e ≡ get_or R i e) where
  pub next_up : (0 < e.earlier) × (e.earlier < e.later) × (e.later ≤ n)
  next_up = o.go_up e.kind e.earlier e.later (edge_dropped i R e.kind e.earlier e.later (next_edge R i e lt is))

  rise : (k : EdgeKind) (u t : ℕ) → HasEdge (take i R) k u t → u < t
  rise k u t h = (o.go_up k u t (edge_taken i R k u t h)).1

  last : (k : EdgeKind) (u t : ℕ) → HasEdge (take i R) k u t → t ≤ e.later
  last k u t h = o.later i k e.kind u t e.earlier e.later h (next_edge R i e lt is)

  module _ (m : ℕ) (rows more : List TestSet) (r : AreRows m (take i R) rows) (many : length more ≡ length rows)
      (added : (u t : ℕ) → has_row more u t ≡ (has_row rows u t || (nat_eq t e.later && (nat_eq u e.earlier || has_row rows u e.earlier)))) where
    to : (u t : ℕ) → has_row more u t ≡ true → Before (take i R ++ (e ∷ [])) u t
    to u t h = before_from (take i R) e next_up.1 rise last u t (elim (or_cases (has_row rows u t) (nat_eq t e.later && (nat_eq u e.earlier || has_row rows u e.earlier)) (sym (added u t) ∙ h)) [
      | inl a ↦ inl ((r.exact u t).0 a)
      | inr b ↦ let p = and_parts (nat_eq t e.later) (nat_eq u e.earlier || has_row rows u e.earlier) b in inr (eqb-true t e.later p.0, elim (or_cases (nat_eq u e.earlier) (has_row rows u e.earlier) p.1) [ inl c ↦ inl (eqb-true u e.earlier c) | inr d ↦ inr ((r.exact u e.earlier).0 d) ])
    ])

    from : (u t : ℕ) → Before (take i R ++ (e ∷ [])) u t → has_row more u t ≡ true
    from u t b = added u t ∙ elim (before_either (take i R) e next_up.1 rise last b) [
      | inl a ↦ or_left (has_row rows u t) _ ((r.exact u t).1 a)
      | inr c ↦ or_right (has_row rows u t) _ (and_from (nat_eq t e.later) _ (eq-eqb t e.later c.0) (elim c.1 [ inl s ↦ or_left (nat_eq u e.earlier) _ (eq-eqb u e.earlier s) | inr d ↦ or_right (nat_eq u e.earlier) _ ((r.exact u e.earlier).1 d) ]))
    ]

    pub rows_next : AreRows m (take (i + 1) R) more
    rows_next = subst (λ (S : List Edge). AreRows m S more) (sym (one_more R i e lt is)) (record { many = many ∙ r.many; exact = λ u t. (to u t, from u t) })

-- no edge leads nowhere
leads_nowhere : {u t : ℕ} → Before [] u t → ⊥
leads_nowhere (edge k h) = h
leads_nowhere (chain a b) = leads_nowhere a

pub none_of_nothing : (u : ℕ) → holds nothing u ≡ false
unfolding holds
none_of_nothing u = empty_held (u / 64) (u % 64)

pub no_rows : (u t : ℕ) → has_row [] u t ≡ false
no_rows u zero = none_of_nothing u
no_rows u (suc t) = none_of_nothing u

-- rows with no test in them
pub rows_begun : (m : ℕ) (rows : List TestSet) → length rows ≡ m → ((u t : ℕ) → has_row rows u t ≡ false) → AreRows m [] rows
rows_begun m rows e f = record {
  many = e;
  exact = λ u t. (λ h. absurd (true≢false (sym h ∙ f u t)), λ b. absurd (leads_nowhere b));
}

-- one more of them
pub rows_still_empty : (xs : List TestSet) (x : TestSet) → ((u t : ℕ) → has_row xs u t ≡ false) → ((u : ℕ) → holds x u ≡ false) → (u t : ℕ) → has_row (xs ++ (x ∷ [])) u t ≡ false
rows_still_empty [] x f g u zero = g u
rows_still_empty [] x f g u (suc t) = none_of_nothing u
rows_still_empty (y ∷ xs) x f g u zero = f u 0
rows_still_empty (y ∷ xs) x f g u (suc t) = rows_still_empty xs x (λ v s. f v (suc s)) g u t

-- past the rows nothing is before
pub past_rows : (m : ℕ) (R : List Edge) (rows : List TestSet) (u t : ℕ) → AreRows m R rows → length rows ≤ t → Before R u t → ⊥
past_rows m R rows u t r h b = true≢false (sym ((r.exact u t).1 b) ∙ ap (λ (x : TestSet). holds x u) (get_or_past rows t nothing h) ∙ none_of_nothing u)
