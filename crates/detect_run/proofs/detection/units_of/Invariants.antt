use Rattle.std.proofs.Common.{◌≡◌, map, take}
use Rattle.detect_run.proofs.detection.units_of.Given as goal

abbrev pub invariant-loop-outcome : goal.invariant-loop-outcome
invariant-loop-outcome l = l.units ≡ map (λ o. o.units) (take l.outcome-index l.outcomes)
