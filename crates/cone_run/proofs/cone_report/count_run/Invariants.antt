use Rattle.std.proofs.Common.{◌≡◌, ◌*◌, ◌≤◌, take}
use Rattle.cone_run.specs.ConesText as text
use Rattle.cone_run.proofs.cone_report.count_run.Given as goal

abbrev pub invariant-loop-index : goal.invariant-loop-index
invariant-loop-index l = (l.run ≡ text.count_run (take l.index l.pieces)) × (l.run ≤ l.index * 1024)
