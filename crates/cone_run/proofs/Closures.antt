-- The tests of a cone: none is above its test, and all are tests of the program.
use Rattle.std.proofs.Common.{◌≡◌, ℕ, suc, ◌+◌, ◌<◌, ◌≤◌, List, [], ◌∷◌, ◌++◌, length, refl, sym, ap, inl, inr, arith}
use Rattle.order_law.specs.declared.edges.{Edge.Edge, EdgeKind.TheVariants.Raw}
use Rattle.order_law.specs.{Conflicts.Member, Conflicts.Closure, Conflicts.selected, Conflicts.source, Plan.Ascending}
use Rattle.dep_graph.specs.Graphs.{GoUp}
use Rattle.cone_run.specs.Cones.{IsCone}

module _ (R : List Edge) (n : ℕ) (up : GoUp n R) (t : ℕ) where
  low : {u : ℕ} → Closure R (λ x. Member x (t ∷ [])) u → u ≤ t
  low (selected (inl e)) = omega arith
  low (selected (inr m)) = absurd m
  low (source c h) = let x = low c in let y = (up Raw _ _ h).1 in omega arith

  positive : {u : ℕ} → 0 < t → Closure R (λ x. Member x (t ∷ [])) u → 0 < u
  positive h (selected (inl e)) = omega arith
  positive h (selected (inr m)) = absurd m
  positive h (source c k) = (up Raw _ _ k).0

  module _ (l : List ℕ) (c : IsCone R t l) where
    -- no test of the cone is above t
    pub cone_low : (u : ℕ) → Member u l → u ≤ t
    cone_low u m = low ((c.exact u).0 m)

    pub cone_positive : 0 < t → (u : ℕ) → Member u l → 0 < u
    cone_positive h u m = positive h ((c.exact u).0 m)

    -- t itself is of it
    pub cone_own : Member t l
    cone_own = (c.exact t).1 (selected (inl refl))

-- the last of an ascending list of which t is the greatest
pub last_is : (t : ℕ) (l : List ℕ) → Ascending l → Member t l → ((u : ℕ) → Member u l → u ≤ t) → (before : List ℕ) × (l ≡ before ++ (t ∷ []))
last_is t [] a m h = absurd m
last_is t (x ∷ []) a (inl e) h = ([], ap (λ (z : ℕ). z ∷ []) (sym e))
last_is t (x ∷ []) a (inr m) h = absurd m
last_is t (x ∷ y ∷ l) a m h =
    let r = last_is t (y ∷ l) a.1 (elim m [ inl e ↦ absurd (let p = a.0 y (inl refl) in let q = h y (inr (inl refl)) in omega arith) | inr i ↦ i ]) (λ u i. h u (inr i)) in
    (x ∷ r.0, ap (λ (z : List ℕ). x ∷ z) r.1)

-- an ascending list of numbers from k on and below m has at most m - k
few_from : (l : List ℕ) (k m : ℕ) → k ≤ m → Ascending l → ((u : ℕ) → Member u l → (k ≤ u) × (u < m)) → length l + k ≤ m
few_from [] k m le a h = omega arith
few_from (t ∷ l) k m le a h =
    let p = h t (inl refl) in
    let low : k ≤ t = p.0 in
    let high : t < m = p.1 in
    let r = few_from l (suc t) m (omega arith) a.1 (λ u j. (let x = a.0 u j in omega arith, (h u (inr j)).1)) in
    omega arith

pub few : (l : List ℕ) (n : ℕ) → Ascending l → ((u : ℕ) → Member u l → (0 < u) × (u ≤ n)) → length l ≤ n
few l n a h =
    let r = few_from l 1 (suc n) (omega arith) a (λ u j. let p = h u j in let x : 0 < u = p.0 in let y : u ≤ n = p.1 in ((let z : 1 ≤ u = omega arith in z), (let z : u < suc n = omega arith in z))) in
    omega arith
