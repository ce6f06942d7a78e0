use Rattle.std.proofs.Common.{◌≡◌, take, sum}
use Rattle.electrictest.proofs.generated.total.Given as goal

-- the units so far
abbrev pub invariant-loop-index : goal.invariant-loop-index
invariant-loop-index l = l.total ≡ sum (take l.index l.units)
