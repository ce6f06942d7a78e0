use Rattle.std.proofs.Common.{◌≡◌, ◌-◌, length}
use Rattle.type_frames.specs.Frames.{padded}
use Rattle.type_frames.proofs.given.padded.Given as goal

abbrev pub invariant-loop-ts : goal.invariant-loop-ts
invariant-loop-ts l = padded l.count l.ts ≡ padded l.count l.fn.places

abbrev pub decreases-loop-ts : goal.decreases-loop-ts
decreases-loop-ts l = l.count - length l.ts
