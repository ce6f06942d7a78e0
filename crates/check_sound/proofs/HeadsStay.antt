-- The run of a typed tree takes no object away, and writes the head of none that stands.
use Rattle.std.proofs.Common.{◌≡◌, ℕ, ◌<◌, arith}
use Rattle.jvm_model.specs.{declared.program.Program.Program, State.State, Step.step}
use Rattle.jvm_model.specs.World.{World, size, object_at}
use Rattle.jvm_model.specs.Access.{Access, run}
use Rattle.type_frames.specs.{Typing.IsTyped, TypedState.TypedWorld, TypedState.TypedState}
use Rattle.check_sound.proofs.Tree.{Tree, Over, Alike}
use Rattle.check_sound.proofs.{Grow.over_itself, Grow.over_then, Grow.alike_over, Grow.alike_back, Ends.TurnsTo}
use Rattle.check_sound.proofs.TreeRuns.{alike_itself, tree_leaves, goes_on}
use Rattle.check_sound.proofs.WholeStep.{Groups, local_of, step-typed}

module _ (p : Program) where
  pub tree_over : {A : Type 0} (P : World → A → Type 0) (t : Access A) (u w : World) → Alike u w → TypedWorld p w → Tree p P u t → Over w (run t w).world
  tree_over P t u w i h r =
      let x = tree_leaves p (λ v a. Over u v × P v a) t u w i h (goes_on p u u (over_itself u) t r) in
      over_then w u (run t w).world (alike_over w u (alike_back u w i)) (over_then u x.seen (run t w).world x.answer.0 (alike_over x.seen (run t w).world x.alike))

module _ (p : Program) (ty : IsTyped p) (gs : Groups p) where
  pub heads_stay : (w : World) (s : State) (o : ℕ) → TypedState p w s → o < size w → (o < size (run (step p s) w).world) × ((object_at (run (step p s) w).world o).head ≡ (object_at w o).head)
  heads_stay w s o t h =
      let g = tree_over p (TurnsTo p) (step p s) w w (alike_itself w) t.world (step-typed p ty gs w s (local_of p ty gs w s t)) in
      ((let e = g.sizes in omega arith), g.heads o h)
