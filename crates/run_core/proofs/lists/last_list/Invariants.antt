-- From the place on there is no post of the worker.
use Rattle.std.proofs.Common.{◌≡◌, take}
use Rattle.run_core.specs.Kept.{last_list}
use Rattle.run_core.proofs.lists.last_list.Given as goal

abbrev pub invariant-loop-place : goal.invariant-loop-place
invariant-loop-place l = last_list l.worker l.history.items ≡ last_list l.worker (take l.place l.history.items)
