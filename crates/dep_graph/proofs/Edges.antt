-- One more edge at the end of a record.
use Rattle.std.proofs.Common.{◌≡◌, ◌⊎◌, ℕ, zero, suc, ◌<◌, ◌≤◌, List, [], ◌∷◌, ◌++◌, take, drop, refl, sym, subst, inl, inr, arith}
use Rattle.order_law.specs.{declared.edges.Edge.Edge, declared.edges.EdgeKind.EdgeKind, Conflicts.HasEdge, Conflicts.Before, Conflicts.edge, Conflicts.chain}
use Rattle.order_law.proofs.Members.{edge_left, edge_right, edge_either, before_up}

pub edge_taken : (i : ℕ) (R : List Edge) (k : EdgeKind) (u t : ℕ) → HasEdge (take i R) k u t → HasEdge R k u t
edge_taken zero R k u t h = absurd h
edge_taken (suc i) [] k u t h = absurd h
edge_taken (suc i) (e ∷ R) k u t h = elim h [ inl x ↦ inl x | inr j ↦ inr (edge_taken i R k u t j) ]

pub edge_dropped : (i : ℕ) (R : List Edge) (k : EdgeKind) (u t : ℕ) → HasEdge (drop i R) k u t → HasEdge R k u t
edge_dropped zero R k u t h = h
edge_dropped (suc i) [] k u t h = absurd h
edge_dropped (suc i) (e ∷ R) k u t h = inr (edge_dropped i R k u t h)

more : (R S : List Edge) {u t : ℕ} → Before R u t → Before (R ++ S) u t
more R S (edge k {u} {t} h) = edge k (edge_left R S k u t h)
more R S (chain a b) = chain (more R S a) (more R S b)

pub stays_within : (R : List Edge) (n : ℕ) → ((k : EdgeKind) (u t : ℕ) → HasEdge R k u t → t ≤ n) → {u t : ℕ} → Before R u t → t ≤ n
stays_within R n f (edge k {u} {t} h) = f k u t h
stays_within R n f (chain a b) = stays_within R n f b

module _ (R : List Edge) (e : Edge) (up : e.earlier < e.later) (rise : (k : EdgeKind) (u t : ℕ) → HasEdge R k u t → u < t) (last : (k : EdgeKind) (u t : ℕ) → HasEdge R k u t → t ≤ e.later) where
  -- by the new edge, at its end
  abbrev pub ByLast : ℕ → ℕ → Type 0
  ByLast u t = (t ≡ e.later) × ((u ≡ e.earlier) ⊎ Before R u e.earlier)

  after_last : (u v t : ℕ) → ByLast u v → (Before R v t ⊎ ByLast v t) → ⊥
  after_last u v t p q = elim q [
    | inl b ↦ let x : v < t = before_up R rise b in let y : t ≤ e.later = stays_within R e.later last b in let z = p.0 in omega arith
    | inr c ↦ elim c.1 [ inl s ↦ let z = p.0 in omega arith | inr b ↦ let x : v < e.earlier = before_up R rise b in let z = p.0 in omega arith ]
  ]

  joined : (u v t : ℕ) → (Before R u v ⊎ ByLast u v) → (Before R v t ⊎ ByLast v t) → Before R u t ⊎ ByLast u t
  joined u v t p q = elim p [
    | inl a ↦ elim q [
      | inl b ↦ inl (chain a b)
      | inr c ↦ inr (c.0, elim c.1 [ inl s ↦ inr (subst (λ (z : ℕ). Before R u z) s a) | inr b ↦ inr (chain a b) ])
    ]
    | inr c ↦ absurd (after_last u v t c q)
  ]

  pub before_either : {u t : ℕ} → Before (R ++ (e ∷ [])) u t → Before R u t ⊎ ByLast u t
  before_either (edge k {u} {t} h) = elim (edge_either R (e ∷ []) k u t h) [
    | inl a ↦ inl (edge k a)
    | inr b ↦ elim b [ inl x ↦ inr (sym x.2, inl (sym x.1)) | inr z ↦ absurd z ]
  ]
  before_either (chain {u} {v} {t} a b) = joined u v t (before_either a) (before_either b)

  here : Before (R ++ (e ∷ [])) e.earlier e.later
  here = edge e.kind (edge_right R (e ∷ []) e.kind e.earlier e.later (inl (refl, refl, refl)))

  to_last : (u t : ℕ) → ByLast u t → Before (R ++ (e ∷ [])) u e.later
  to_last u t c = elim c.1 [ inl s ↦ subst (λ (z : ℕ). Before (R ++ (e ∷ [])) z e.later) (sym s) here | inr b ↦ chain (more R (e ∷ []) b) here ]

  pub before_from : (u t : ℕ) → (Before R u t ⊎ ByLast u t) → Before (R ++ (e ∷ [])) u t
  before_from u t p = elim p [
    | inl b ↦ more R (e ∷ []) b
    | inr c ↦ subst (λ (z : ℕ). Before (R ++ (e ∷ [])) u z) (sym c.0) (to_last u t c)
  ]
