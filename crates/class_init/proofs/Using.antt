-- A row that uses a class, by how the use went: what the parts of a step say of the whole.
use Rattle.std.proofs.Common.{◌≡◌, ℕ, List, Result, refl, sym, ap, ◌∙◌, subst}
use Rattle.std.specs.Prelude.{◌≢◌}
use Rattle.std.proofs.lemmas.Result.{IfOk-weaker}
use Rattle.jvm_model.specs.declared.{values.Touch.Touch, outcome.Next.Next, program.Program.Program}
use Rattle.jvm_model.specs.declared.outcome.Next.TheVariants as next
use Rattle.jvm_model.specs.{World.World, Access.spend, Entries.Entries}
use Rattle.jvm_model.specs.Rows.{answer, ready, begun, refused, begin, once, using}
use Rattle.jvm_model.specs.View.{over, ended, counted, counts_one, and_then, touched, paid, IsSafe, IsRow, Any}
use Rattle.jvm_model.proofs.Binds.{counted_bind, touched_bind, safe_begins}
use Rattle.jvm_model.proofs.Uses.{used_ready, used_begun, used_refused, used_safe, used_touches}
use Rattle.vm_mem.specs.Trace.{Trace}
use Rattle.vm_mem.specs.Refines.{Row, IsReady, Refines, Traces, Makes}
use Rattle.class_init.specs.Uses.{IsUsable, RefinesUse, TracesUse}
use Rattle.class_init.specs.declared.uses.{Use.Use, Use.TheVariants.Ready, Use.TheVariants.Begun, Use.TheVariants.Fault, Use.TheVariants.Over}

module _ (t u : Row Entries) (p : Program) (c : ℕ) (s : Entries) (w : World) (left : ℕ) (e : t p s ≡ using p c s (u p s)) where
  use_safe : IsSafe IsRow (t p s) w → IsSafe Any (begin p c s) w
  use_safe h = safe_begins IsRow (begin p c s) (once s (u p s)) w (subst (λ r. IsSafe IsRow r w) e h)

  module _ (x : Use) (s' : Entries) (w' : World) (left' : ℕ) (m : RefinesUse c p w s left x s' w' left') where
    ready_ends : x ≡ Ready → counted (begin p c s) w left ≡ ended ready w' left'
    ready_ends q = subst (λ y. RefinesUse c p w s left y s' w' left') q m

    begun_ends : x ≡ Begun → counted (spend 1 (begin p c s)) w left ≡ ended (begun s') w' left'
    begun_ends q = subst (λ y. RefinesUse c p w s left y s' w' left') q m

    fault_ends : (d : ℕ) → x ≡ Fault d → counted (begin p c s) w left ≡ ended (refused d) w' left'
    fault_ends d q = subst (λ y. RefinesUse c p w s left y s' w' left') q m

    over_ends : x ≡ Over → counted (spend 1 (begin p c s)) w left ≡ over
    over_ends q = subst (λ y. RefinesUse c p w s left y s' w' left') q m

    same_at_ready : x ≡ Ready → (x ≢ Begun → s' ≡ s) → s' ≡ s
    same_at_ready q same = same (λ b. cc)

    same_at_fault : (d : ℕ) → x ≡ Fault d → (x ≢ Begun → s' ≡ s) → s' ≡ s
    same_at_fault d q same = same (λ b. cc)

    ready_safe : (p' : Program) → x ≡ Ready → p' ≡ p → (x ≢ Begun → s' ≡ s) → IsSafe IsRow (t p s) w → IsSafe IsRow (u p' s') w'
    ready_safe p' q of same h =
        let k : IsSafe IsRow (u p s) w' = used_safe p c s (u p s) w left w' left' (ready_ends q) (subst (λ r. IsSafe IsRow r w) e h) in
        subst (λ r. IsSafe IsRow (u p' r) w') (sym (same_at_ready q same)) (subst (λ r. IsSafe IsRow (u r s) w') (sym of) k)

    ready_one : (y : Next) (s2 : Entries) (w2 : World) (left2 : ℕ) → x ≡ Ready → Refines u p w' s left' y s2 w2 left2 → Refines t p w s left y s2 w2 left2
    ready_one y s2 w2 left2 q k = ap (λ r. counted (paid (counts_one p y) r) w left) e ∙ used_ready p c s (u p s) w left (counts_one p y) w' left' (ready_ends q) ∙ k

    ready_meets : (p' : Program) (y : Next) (s2 : Entries) (w2 : World) (left2 : ℕ) → x ≡ Ready → p' ≡ p → (x ≢ Begun → s' ≡ s) → Refines u p' w' s' left' y s2 w2 left2 → Refines t p w s left y s2 w2 left2
    ready_meets p' y s2 w2 left2 q of same k =
        ready_one y s2 w2 left2 q (subst (λ z. Refines u p w' z left' y s2 w2 left2) (same_at_ready q same) (subst (λ z. Refines u z w' s' left' y s2 w2 left2) of k))

    ready_touches : x ≡ Ready → (ts : List Touch) → touched (t p s) w ts ≡ touched (u p s) w' (touched (begin p c s) w ts)
    ready_touches q ts = ap (λ r. touched r w ts) e ∙ used_touches p c s (u p s) w left w' left' (ready_ends q) ts

    module _ {M : Type 0} (follows : M → Trace → List Touch → Type 0) (m0 m1 : M) (told : TracesUse c p w s x follows m0 m1) where
      ready_told : (m2 : M) (y : Next) → x ≡ Ready → Traces u p w' s y follows m1 m2 → Traces t p w s y follows m0 m2
      ready_told m2 y q k = λ n h ts f. subst (λ r. follows m2 h r) (sym (ready_touches q ts)) (k n h (touched (begin p c s) w ts) (told (λ b. cc) h ts f))

      ready_tells : (m2 : M) (p' : Program) (y : Next) → x ≡ Ready → p' ≡ p → (x ≢ Begun → s' ≡ s) → Traces u p' w' s' y follows m1 m2 → Traces t p w s y follows m0 m2
      ready_tells m2 p' y q of same k =
          ready_told m2 y q (subst (λ z. Traces u p w' z y follows m1 m2) (same_at_ready q same) (subst (λ z. Traces u z w' s' y follows m1 m2) of k))

      begun_tells : x ≡ Begun → Traces t p w s next.Go follows m0 m1
      begun_tells q = λ n h ts f. subst (λ r. follows m1 h r)
          (sym (ap (λ r. touched r w ts) e ∙ touched_bind (spend 1 (begin p c s)) (once s (u p s)) w left (begun s') w' left' (begun_ends q) ts))
          (told (λ b. cc) h ts f)

      fault_tells : (d : ℕ) → x ≡ Fault d → Traces t p w s (next.Fault d) follows m0 m1
      fault_tells d q = λ n h ts f. subst (λ r. follows m1 h r)
          (sym (ap (λ r. touched r w ts) e ∙ touched_bind (begin p c s) (once s (u p s)) w left (refused d) w' left' (fault_ends d q) ts))
          (told (λ b. cc) h ts f)

    begun_meets : x ≡ Begun → Refines t p w s left next.Go s' w' left'
    begun_meets q = ap (λ r. counted (spend 1 r) w left) e ∙ used_begun p c s (u p s) w left s' w' left' (begun_ends q)

    fault_meets : (d : ℕ) → x ≡ Fault d → (x ≢ Begun → s' ≡ s) → Refines t p w s left (next.Fault d) s' w' left'
    fault_meets d q same = ap (λ r. counted r w left) e ∙ used_refused p c s (u p s) w left d w' left' (fault_ends d q)
        ∙ ap (λ z. ended (answer (next.Fault d) z) w' left') (sym (same_at_fault d q same))

    over_meets : x ≡ Over → Refines t p w s left next.Over s' w' left'
    over_meets q = ap (λ r. counted (spend 1 r) w left) e ∙ counted_bind (spend 1 (begin p c s)) (once s (u p s)) w left
        ∙ ap (λ r. and_then r (once s (u p s))) (over_ends q)

-- the same over a memory
module _ {M : Type 0} (t u : Row Entries) (program : M → Program) (world : M → World) (follows : M → Trace → List Touch → Type 0) (c : ℕ) (m0 : M) (s : Entries) (e : t (program m0) s ≡ using (program m0) c s (u (program m0) s)) where
  pub row_usable : (p : Program) → IsReady t p program world m0 s → IsUsable c p program world m0 s
  row_usable p h =
      (h.0, subst (λ q. IsSafe Any (begin q c s) (world m0)) (sym h.0) (use_safe t u (program m0) c s (world m0) 0 e (subst (λ q. IsSafe IsRow (t q s) (world m0)) h.0 h.1)))

  module _ (left : ℕ) (m1 : M) (x : Use) (s' : Entries) (left' : ℕ) (used : (program m1 ≡ program m0) × RefinesUse c (program m0) (world m0) s left x s' (world m1) left' × TracesUse c (program m0) (world m0) s x follows m0 m1) where
    pub ready_row : (p p' : Program) → x ≡ Ready → (x ≢ Begun → s' ≡ s) → p' ≡ program m1 → IsReady t p program world m0 s → IsReady u p' program world m1 s'
    ready_row p p' q same of h =
        (of, ready_safe t u (program m0) c s (world m0) left e x s' (world m1) left' used.1 p' q (of ∙ used.0) same (subst (λ r. IsSafe IsRow (t r s) (world m0)) h.0 h.1))

    pub ready_makes : {E : Type 0} (m2 : M) (r : Result Next E) (s2 : Entries) (left2 : ℕ) → x ≡ Ready → (x ≢ Begun → s' ≡ s) →
        Makes u program world follows m1 m2 s' left' r s2 left2 → Makes t program world follows m0 m2 s left r s2 left2
    ready_makes m2 r s2 left2 q same k = (
      k.0 ∙ used.0,
      IfOk-weaker r
          (λ y. Refines u (program m1) (world m1) s' left' y s2 (world m2) left2 × Traces u (program m1) (world m1) s' y follows m1 m2)
          (λ y. Refines t (program m0) (world m0) s left y s2 (world m2) left2 × Traces t (program m0) (world m0) s y follows m0 m2)
          (λ y j. (
            ready_meets t u (program m0) c s (world m0) left e x s' (world m1) left' used.1 (program m1) y s2 (world m2) left2 q used.0 same j.0,
            ready_tells t u (program m0) c s (world m0) left e x s' (world m1) left' used.1 follows m0 m1 used.2 m2 (program m1) y q used.0 same j.1,
          )) k.1,
    )

    abbrev Ended : Next → Type 0
    Ended y = (program m1 ≡ program m0) × Refines t (program m0) (world m0) s left y s' (world m1) left' × Traces t (program m0) (world m0) s y follows m0 m1

    pub begun_makes : x ≡ Begun → Ended next.Go
    begun_makes q =
        (used.0, begun_meets t u (program m0) c s (world m0) left e x s' (world m1) left' used.1 q, begun_tells t u (program m0) c s (world m0) left e x s' (world m1) left' used.1 follows m0 m1 used.2 q)

    pub fault_makes : (d : ℕ) → x ≡ Fault d → (x ≢ Begun → s' ≡ s) → Ended (next.Fault d)
    fault_makes d q same =
        (used.0, fault_meets t u (program m0) c s (world m0) left e x s' (world m1) left' used.1 d q same, fault_tells t u (program m0) c s (world m0) left e x s' (world m1) left' used.1 follows m0 m1 used.2 d q)

    pub over_makes : x ≡ Over → Ended next.Over
    over_makes q =
        (used.0, over_meets t u (program m0) c s (world m0) left e x s' (world m1) left' used.1 q, λ n. absurd (n refl))
