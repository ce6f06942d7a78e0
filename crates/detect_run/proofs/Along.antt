-- The worlds of the suite's own order: they are typed, each has the objects of those before it, and their sizes are those
-- of the touches.
use Rattle.std.proofs.Common.{◌≡◌, ℕ, zero, suc, ◌+◌, ◌<◌, ◌≤◌, List, length, Some, refl, sym, ◌∙◌, ap, subst, inl, inr, arith}
use Rattle.std.proofs.lemmas.Bool.{cases_eq}
use Rattle.jvm_model.specs.declared.program.Program.{Program}
use Rattle.jvm_model.specs.{State.test_at, World.size}
use Rattle.jvm_model.specs.Suite.{Given, tree, opening, runs, all_tests}
use Rattle.type_frames.specs.{Typing.IsTyped, TypedState.TypedWorld}
use Rattle.check_sound.proofs.{AllGroups.groups, Grow.over_itself, Grow.over_then, Tree.Over, WholeTest.opening_typed, WholeTest.left_typed}
use Rattle.order_law.specs.Histories.{touches_of}
use Rattle.access_tags.specs.Ran.{size_in, size_after}
use Rattle.detect_run.proofs.HeadsStay.{test_over}
use Rattle.detect_run.proofs.InOrder.{world_at, of_run, GaveAt, gave_at, gave_all}
use Rattle.detect_run.proofs.Sizes.{AllStand, run_size, run_stands}

module _ (p : Program) (ty : IsTyped p) (xs : List Given) (ran : runs p (all_tests p) ≡ Some xs) where
  pub test_gives : (i : ℕ) → i < length p.tests → GaveAt p xs i i
  test_gives i h = let z : 0 + i ≡ i = omega arith in subst (λ (k : ℕ). GaveAt p xs i k) z (gave_at p (length p.tests) 0 i xs (gave_all p xs ran) h)

  pub typed_at : (i : ℕ) → i ≤ length p.tests → TypedWorld p (world_at p i)
  typed_at zero h = opening_typed p ty
  typed_at (suc i) h =
      let a = test_gives i (omega arith) in
      subst (TypedWorld p) (sym (of_run p i a.given a.gives).world) (left_typed p ty (groups p ty) (suc i) (test_at p (suc i)).budget (world_at p i) a.given (typed_at i (omega arith)) (omega arith) h a.gives)

  over_next : (i : ℕ) → i < length p.tests → Over (world_at p i) (world_at p (suc i))
  over_next i h = test_over p ty (suc i) (test_at p (suc i)).budget (world_at p i) (typed_at i (omega arith)) (omega arith) (omega arith)

  pub over_at : (i j : ℕ) → i ≤ j → j ≤ length p.tests → Over (world_at p i) (world_at p j)
  over_at i zero h k = let z : i ≡ zero = omega arith in subst (λ (n : ℕ). Over (world_at p n) (world_at p zero)) (sym z) (over_itself (world_at p zero))
  over_at i (suc j) h k = elim (cases_eq i (suc j)) [
    | inl e ↦ subst (λ (n : ℕ). Over (world_at p n) (world_at p (suc j))) (sym e) (over_itself (world_at p (suc j)))
    | inr n ↦ over_then (world_at p i) (world_at p j) (world_at p (suc j)) (over_at i j (omega arith) (omega arith)) (over_next j (omega arith))
  ]

  pub size_at : (i : ℕ) → i ≤ length p.tests → size_in (touches_of p) i ≡ size (world_at p i)
  unfolding opening
  size_at zero h = refl
  size_at (suc i) h =
      let a = test_gives i (omega arith) in
      ap (λ (n : ℕ). size_after n (touches_of p (suc i))) (size_at i (omega arith))
      ∙ sym (run_size (tree p (suc i) (test_at p (suc i)).budget) (world_at p i) (of_run p i a.given a.gives).sound)

  -- what a test touches stands after it
  pub stands_after : (i : ℕ) → i < length p.tests → AllStand (size (world_at p (suc i))) (touches_of p (suc i))
  stands_after i h =
      let a = test_gives i h in
      run_stands (tree p (suc i) (test_at p (suc i)).budget) (world_at p i) (size (world_at p (suc i))) (of_run p i a.given a.gives).sound (omega arith)
