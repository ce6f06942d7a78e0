-- Sets of the tests of a list, and what they lack.
use Rattle.std.proofs.Common.{◌≡◌, ℕ, zero, suc, ◌+◌, ◌<◌, ◌≤◌, true, false, nat_eq, List, [], ◌∷◌, length, get_or, take, refl, sym, ◌∙◌, ap, subst, inl, inr, arith}
use Rattle.std.proofs.lemmas.Bool.{or_cases, or_left, or_right, eqb-true, eq-eqb}
use Rattle.std.proofs.lemmas.List.{take_more, take_all}
use Rattle.order_law.specs.declared.edges.{Edge.Edge, EdgeKind.TheVariants.Raw}
use Rattle.order_law.specs.{Conflicts.Member, Conflicts.HasEdge, OrderFault.HasWriters, Plan.Ascending}
use Rattle.order_law.proofs.Members.{member_left, member_right}
use Rattle.dep_graph.specs.{declared.sets.TestSet.TestSet, Sets.holds, Graphs.GoUp, Graphs.AreWriters}
use Rattle.selection_close.specs.Faults.{HoldsList, HasAll, IsLeastOutside, gained}
use Rattle.selection_close.proofs.Lists.{member_at, member_next}

module _ (s n : TestSet) (l : List ℕ) (i : ℕ) (lt : i < length l) (f : HoldsList s (take i l)) (g : (u : ℕ) → u < 1088 → holds n u ≡ gained s (get_or l i 0) u) where
  to_list : (u : ℕ) → u < 1088 → holds n u ≡ true → Member u (take (i + 1) l)
  to_list u h e = subst (λ (x : List ℕ). Member u x) (sym (take_more l i 0 lt)) (elim (or_cases (nat_eq u (get_or l i 0)) (holds s u) (sym (g u h) ∙ e)) [
    | inl a ↦ member_right (take i l) (get_or l i 0 ∷ []) u (inl (eqb-true u (get_or l i 0) a))
    | inr b ↦ member_left (take i l) (get_or l i 0 ∷ []) u ((f u h).0 b)
  ])

  from_list : (u : ℕ) → u < 1088 → Member u (take (i + 1) l) → holds n u ≡ true
  from_list u h m = g u h ∙ elim (member_next l i u lt m) [
    | inl a ↦ or_right (nat_eq u (get_or l i 0)) (holds s u) ((f u h).1 a)
    | inr e ↦ or_left (nat_eq u (get_or l i 0)) (holds s u) (eq-eqb u (get_or l i 0) e)
  ]

  pub holds_next : HoldsList n (take (i + 1) l)
  holds_next = λ u h. (to_list u h, from_list u h)

pub held_next : (s : TestSet) (l : List ℕ) (i : ℕ) → i < length l → ((v : ℕ) → Member v (take i l) → holds s v ≡ true) → holds s (get_or l i 0) ≡ true → (v : ℕ) → Member v (take (i + 1) l) → holds s v ≡ true
held_next s l i lt f e v m = elim (member_next l i v lt m) [ inl a ↦ f v a | inr g ↦ ap (λ (x : ℕ). holds s x) g ∙ e ]

before_place : (l : List ℕ) (i v : ℕ) → Ascending l → i < length l → Member v l → v < get_or l i 0 → Member v (take i l)
before_place [] i v a h m lt = absurd m
before_place (y ∷ l) zero v a h m lt = elim m [ inl e ↦ absurd (omega arith) | inr j ↦ let x = a.0 v j in absurd (omega arith) ]
before_place (y ∷ l) (suc i) v a h m lt = elim m [ inl e ↦ inl e | inr j ↦ inr (before_place l i v a.1 (omega arith) j lt) ]

pub least_outside : (R : List Edge) (s : TestSet) (t : ℕ) (l : List ℕ) (i : ℕ) → AreWriters R t l → i < length l → ((v : ℕ) → Member v (take i l) → holds s v ≡ true) → holds s (get_or l i 0) ≡ false → IsLeastOutside R s t (get_or l i 0)
least_outside R s t l i w lt f no_bit = record {
  edge = (w.exact (get_or l i 0)).0 (subst (λ (x : List ℕ). Member (get_or l i 0) x) (take_all (length l) l (omega arith)) (member_at l i (length l) (get_or l i 0) lt (omega arith) refl));
  outside = no_bit;
  least = λ v h e. f v (before_place l i v w.ascending lt ((w.exact v).1 e) h);
}

below : (R : List Edge) → GoUp 1024 R → (u t : ℕ) → HasEdge R Raw u t → u < 1088
below R up u t h = let p = up Raw u t h in let a : u < t = p.1 in let b : t ≤ 1024 = p.2 in omega arith

pub writers_next : (R : List Edge) (l : List ℕ) (s : TestSet) (i : ℕ) → GoUp 1024 R → HoldsList s l → i < length l → ((t : ℕ) → Member t (take i l) → HasWriters R l t) → HasAll R s (get_or l i 0) → (t : ℕ) → Member t (take (i + 1) l) → HasWriters R l t
writers_next R l s i up hs lt f ha t m = elim (member_next l i t lt m) [
  | inl a ↦ f t a
  | inr e ↦ λ u h. (hs u (below R up u t h)).0 (ha u (subst (λ (z : ℕ). HasEdge R Raw u z) e h))
]
