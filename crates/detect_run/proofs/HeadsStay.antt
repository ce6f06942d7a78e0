-- A whole test of a typed program takes no object away, and changes the head of none that stands.
use Rattle.std.proofs.Common.{ℕ, zero, suc, ◌<◌, ◌≤◌, length}
use Rattle.jvm_model.specs.declared.program.Program.{Program}
use Rattle.jvm_model.specs.{World.World, Access.run, Step.step}
use Rattle.jvm_model.specs.State.{State, Turn, next, ended, stuck_turn, started}
use Rattle.jvm_model.specs.Suite.{End, after_step, whole, tree}
use Rattle.type_frames.specs.{Typing.IsTyped, TypedState.TypedWorld}
use Rattle.type_frames.proofs.Started.{started_law}
use Rattle.check_sound.proofs.{AllGroups.groups, TreeRuns.alike_itself, TreeRuns.bind_over, HeadsStay.tree_over, Ends.Local, Ends.TurnsTo}
use Rattle.check_sound.proofs.Tree.{Tree, typed_done, Over}
use Rattle.check_sound.proofs.WholeStep.{step-typed, local_of}

module _ (p : Program) (ty : IsTyped p) where
  abbrev AnyEnd : World → End → Type 0
  AnyEnd w x = Unit {0}

  whole_typed : (n : ℕ) (w : World) (s : State) → Local p w s → Tree p AnyEnd w (whole p n s)
  whole_typed zero w s h = typed_done tt
  whole_typed (suc n) w s h = bind_over p (TurnsTo p) AnyEnd (step p s) (after_step (λ t. whole p n t)) w (step-typed p ty (groups p ty) w s h) (λ v a g q. by (λ u t k. whole_typed n u t k) v a q)
    where
      by : ((u : World) (t : State) → Local p u t → Tree p AnyEnd u (whole p n t)) → (v : World) (a : Turn) → TurnsTo p v a → Tree p AnyEnd v (after_step (λ t. whole p n t) a)
      by f v (next t) q = f v t q
      by f v (ended x o) q = typed_done tt
      by f v stuck_turn q = absurd q

  pub test_over : (t b : ℕ) (w : World) → TypedWorld p w → 0 < t → t ≤ length p.tests → Over w (run (tree p t b) w).world
  unfolding tree
  test_over t b w h low high =
      let s = started p t in
      tree_over p AnyEnd (whole p (suc b) s) w w (alike_itself w) h (whole_typed (suc b) w s (local_of p ty (groups p ty) w s (started_law p w t h low high)))
