-- The reach of one test more, and when a test is settled.
use Rattle.std.proofs.Common.{◌≡◌, ◌⊎◌, ◌+◌, ◌<◌, ℕ, zero, suc, Bool, not, ◌&&◌, List, [], ◌∷◌, ◌++◌, length, slice_get, refl, sym, ◌∙◌, ap, subst, arith, inl, inr, Some}
use Rattle.std.proofs.lemmas.Bool.{cases_order, eq-eqb, ne_eqb, lt-ltb}
use Rattle.jvm_model.specs.declared.program.Program.{Program}
use Rattle.jvm_model.specs.declared.values.Kind.{Kind}
use Rattle.order_law.specs.declared.records.Reach.{Reach}
use Rattle.order_law.specs.Histories.{Touches}
use Rattle.order_law.specs.Reach.{is_settled_in, IsReachIn, puts_out_somewhere}
use Rattle.access_tags.specs.{HeadMarks.touches_so_far, Ran.touched_by, Settled.AreReaches, Settled.reads_out_alone}

pub settled_is : (p : Program) (S : Touches) (t : ℕ) (a q : Bool) → a ≡ reads_out_alone S t → q ≡ puts_out_somewhere p → (a && not q) ≡ is_settled_in p S t
unfolding is_settled_in
settled_is p S t a q e f = rw e (rw f refl)

last_or_before : (rs : List Reach) (x : Reach) (i : ℕ) (r : Reach) → slice_get (rs ++ x ∷ []) i ≡ Some r → (slice_get rs i ≡ Some r) ⊎ ((i ≡ length rs) × (x ≡ r))
last_or_before [] x zero r e = inr (refl, (cc))
last_or_before [] x (suc i) r e = absurd (cc)
last_or_before (y ∷ rs) x zero r e = inl e
last_or_before (y ∷ rs) x (suc i) r e = elim (last_or_before rs x i r e) [ inl k ↦ inl k | inr k ↦ let q = k.0 in inr (omega arith, k.1) ]

pub reaches_more : (p : Program) (S : Touches) (kinds : ℕ → ℕ → Kind) (rs : List Reach) (x : Reach) → AreReaches p S kinds rs → IsReachIn p S kinds (length rs + 1) x → AreReaches p S kinds (rs ++ x ∷ [])
reaches_more p S kinds rs x a r i y e = elim (last_or_before rs x i y e) [
  | inl k ↦ a i y k
  | inr k ↦ subst (λ (j : ℕ). IsReachIn p S kinds (j + 1) y) (sym k.0) (subst (λ (z : Reach). IsReachIn p S kinds (length rs + 1) z) k.1 r)
]

-- the touches of each test of a run, the last of which is the running one
pub so_far_all : (T : Touches) (n i : ℕ) → i < n → touches_so_far (touched_by T) n (touched_by T n) (i + 1) ≡ T (i + 1)
so_far_all T n i h = let s : i + 1 ≡ suc i = omega arith in elim (cases_order (i + 1) n) [
  | inl q ↦ rw (eq-eqb (i + 1) n q) (ap (λ (j : ℕ). touched_by T j) (sym q) ∙ (ap (λ (j : ℕ). touched_by T j) s ∙ ap (λ (j : ℕ). T j) (sym s)))
  | inr (inl l) ↦ rw (ne_eqb (i + 1) n (λ q. omega arith)) (rw (lt-ltb (i + 1) n l) (ap (λ (j : ℕ). touched_by T j) s ∙ ap (λ (j : ℕ). T j) (sym s)))
  | inr (inr l) ↦ absurd (omega arith)
]
