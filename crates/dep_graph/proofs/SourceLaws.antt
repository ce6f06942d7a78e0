-- The lists of raw writers after one more edge.
use Rattle.std.proofs.Common.{◌≡◌, ℕ, ◌+◌, ◌<◌, List, [], ◌∷◌, ◌++◌, length, take, drop, get_or, set, refl, sym, ◌∙◌, ap, subst, inl, inr}
use Rattle.std.proofs.{lemmas.Bool.cases_eq, lemmas.List.get_or-set_same, lemmas.List.get_or-set_other, Math.ListN.length-set}
use Rattle.order_law.specs.declared.edges.{Edge.Edge, EdgeKind.EdgeKind, EdgeKind.TheVariants.Raw}
use Rattle.order_law.specs.{Conflicts.Member, Conflicts.HasEdge, Plan.Ascending}
use Rattle.order_law.proofs.Members.{member_left, member_right, member_either, edge_left, edge_right, edge_either}
use Rattle.dep_graph.specs.Graphs.{AreOrdered, AreWriters, AreSources}
use Rattle.dep_graph.proofs.RowLaws.{next_edge, one_more}

pub ascending_more : (l : List ℕ) (u : ℕ) → Ascending l → ((x : ℕ) → Member x l → x < u) → Ascending (l ++ (u ∷ []))
ascending_more [] u a f = (λ x h. absurd h, tt)
ascending_more (y ∷ l) u a f = (
  λ x h. elim (member_either l (u ∷ []) x h) [ inl j ↦ a.0 x j | inr j ↦ elim j [ inl e ↦ subst (λ (z : ℕ). y < z) (sym e) (f y (inl refl)) | inr z ↦ absurd z ] ],
  ascending_more l u a.1 (λ x h. f x (inr h)),
)

module _ (R : List Edge) (e : Edge) (t : ℕ) (l : List ℕ) (w : AreWriters R t l) where
  writers_same : ((e.kind ≡ Raw) → (e.later ≡ t) → ⊥) → AreWriters (R ++ (e ∷ [])) t l
  writers_same not_so = record {
    exact = λ u. (
      λ m. edge_left R (e ∷ []) Raw u t ((w.exact u).0 m),
      λ h. elim (edge_either R (e ∷ []) Raw u t h) [ inl a ↦ (w.exact u).1 a | inr b ↦ elim b [ inl x ↦ absurd (not_so x.0 x.2) | inr z ↦ absurd z ] ],
    );
    ascending = w.ascending;
  }

  writers_more : e.kind ≡ Raw → e.later ≡ t → ((u : ℕ) → HasEdge R Raw u t → u < e.earlier) → AreWriters (R ++ (e ∷ [])) t (l ++ (e.earlier ∷ []))
  writers_more is_raw at below = record {
    exact = λ u. (
      λ m. elim (member_either l (e.earlier ∷ []) u m) [
        | inl j ↦ edge_left R (e ∷ []) Raw u t ((w.exact u).0 j)
        | inr j ↦ elim j [ inl s ↦ edge_right R (e ∷ []) Raw u t (inl (is_raw, sym s, at)) | inr z ↦ absurd z ]
      ],
      λ h. elim (edge_either R (e ∷ []) Raw u t h) [
        | inl a ↦ member_left l (e.earlier ∷ []) u ((w.exact u).1 a)
        | inr b ↦ elim b [ inl x ↦ member_right l (e.earlier ∷ []) u (inl (sym x.1)) | inr z ↦ absurd z ]
      ],
    );
    ascending = ascending_more l e.earlier w.ascending (λ x m. below x ((w.exact x).0 m));
  }

module _ (n m : ℕ) (R : List Edge) (o : AreOrdered n R) (i : ℕ) (e : Edge) (lt : i < length R) (is : e ≡ get_or R i e) (lists : List (List ℕ)) (s : AreSources m (take i R) lists) where
  at_take : (new : List (List ℕ)) → AreSources m (take i R ++ (e ∷ [])) new → AreSources m (take (i + 1) R) new
  at_take new a = subst (λ (S : List Edge). AreSources m S new) (sym (one_more R i e lt is)) a

  pub sources_same : (e.kind ≡ Raw → ⊥) → AreSources m (take (i + 1) R) lists
  sources_same not_raw = at_take lists (record { many = s.many; each = λ t b. writers_same (take i R) e t (get_or lists t []) (s.each t b) (λ h g. not_raw h) })

  below : e.kind ≡ Raw → (t : ℕ) → e.later ≡ t → (u : ℕ) → HasEdge (take i R) Raw u t → u < e.earlier
  below is_raw t at u h = o.earlier i Raw u t e.earlier h (subst (λ (k : EdgeKind). HasEdge (drop i R) k e.earlier t) is_raw (subst (λ (x : ℕ). HasEdge (drop i R) e.kind e.earlier x) at (next_edge R i e lt is)))

  pub sources_more : e.kind ≡ Raw → e.later < m → AreSources m (take (i + 1) R) (set lists e.later (get_or lists e.later [] ++ (e.earlier ∷ [])))
  sources_more is_raw within =
      let long : e.later < length lists = subst (λ (x : ℕ). e.later < x) (sym s.many) within in
      at_take _ (record {
        many = length-set lists e.later _ ∙ s.many;
        each = λ t b. elim (cases_eq t e.later) [
          | inl at ↦ subst (λ (l : List ℕ). AreWriters (take i R ++ (e ∷ [])) t l) (ap (λ (x : ℕ). get_or lists x [] ++ (e.earlier ∷ [])) at ∙ sym (ap (λ (x : ℕ). get_or (set lists e.later (get_or lists e.later [] ++ (e.earlier ∷ []))) x []) at ∙ get_or-set_same lists e.later _ [] long))
              (writers_more (take i R) e t (get_or lists t []) (s.each t b) is_raw (sym at) (below is_raw t (sym at)))
          | inr other ↦ subst (λ (l : List ℕ). AreWriters (take i R ++ (e ∷ [])) t l) (sym (get_or-set_other lists e.later t _ [] other))
              (writers_same (take i R) e t (get_or lists t []) (s.each t b) (λ h g. other (sym g)))
        ];
      })
