-- From the place on there is no post of the test.
use Rattle.std.proofs.Common.{◌≡◌, take}
use Rattle.run_core.specs.Kept.{found_outcome}
use Rattle.run_core.proofs.lists.find_outcome.Given as goal

abbrev pub invariant-loop-place : goal.invariant-loop-place
invariant-loop-place l = found_outcome l.test l.history.items ≡ found_outcome l.test (take l.place l.history.items)
