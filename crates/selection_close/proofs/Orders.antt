-- Lists that keep to the order of edges, a place further.
use Rattle.std.proofs.Common.{ℕ, ◌+◌, ◌<◌, List, [], ◌∷◌, ◌++◌, length, get_or, take, refl, sym, subst, inl, inr, arith}
use Rattle.std.proofs.lemmas.{Bool.cases_eq, List.take_more, Option.get_or_from_slice_get}
use Rattle.order_law.specs.{declared.edges.Edge.Edge, Conflicts.Member, Conflicts.Before, Conflicts.InOrder, OrderFault.IsInPlace}
use Rattle.order_law.proofs.Members.{member_either}
use Rattle.selection_close.specs.Faults.{IsBeforeNone}
use Rattle.selection_close.proofs.Lists.{member_place}

in_order_more : (R : List Edge) (l : List ℕ) (t : ℕ) → InOrder R l → ((b : ℕ) → Member b l → Before R t b → ⊥) → InOrder R (l ++ (t ∷ []))
in_order_more R [] t o f = (λ u m b. m, tt)
in_order_more R (y ∷ l) t o f = (
  λ u m b. elim (member_either l (t ∷ []) u m) [ inl a ↦ o.0 u a b | inr c ↦ elim c [ inl e ↦ f y (inl refl) (subst (λ (z : ℕ). Before R z y) e b) | inr z ↦ z ] ],
  in_order_more R l t o.1 (λ b m. f b (inr m)),
)

pub in_order_next : (R : List Edge) (l : List ℕ) (i : ℕ) → i < length l → InOrder R (take i l) → IsBeforeNone R l i i → InOrder R (take (i + 1) l)
in_order_next R l i h o f = subst (λ (x : List ℕ). InOrder R x) (sym (take_more l i 0 h))
    (in_order_more R (take i l) (get_or l i 0) o (λ b m r. let p = member_place l i b m in f p.0 p.1 (subst (λ (z : ℕ). Before R (get_or l i 0) z) (sym p.3) r)))

here : (R : List Edge) (l : List ℕ) (i : ℕ) → IsBeforeNone R l i i → IsInPlace R l i
here R l i n j a b h e g r = n j h (subst (λ (z : ℕ). Before R z (get_or l j 0)) (sym (get_or_from_slice_get l i a 0 e)) (subst (λ (z : ℕ). Before R a z) (sym (get_or_from_slice_get l j b 0 g)) r))

pub in_place_next : (R : List Edge) (l : List ℕ) (i : ℕ) → ((k : ℕ) → k < i → IsInPlace R l k) → IsBeforeNone R l i i → (k : ℕ) → k < i + 1 → IsInPlace R l k
in_place_next R l i f n k h = elim (cases_eq k i) [
  | inl e ↦ subst (λ (z : ℕ). IsInPlace R l z) (sym e) (here R l i n)
  | inr other ↦ f k (omega arith)
]
