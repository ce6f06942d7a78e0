use Rattle.std.proofs.Common.{◌≡◌, ◌++◌, drop}
use Rattle.type_frames.specs.Frames.{spread}
use Rattle.type_frames.proofs.given.spread.Given as goal

abbrev pub invariant-loop-t : goal.invariant-loop-t
invariant-loop-t l = l.places ++ spread (drop l.t-index l.types) ≡ spread l.types
