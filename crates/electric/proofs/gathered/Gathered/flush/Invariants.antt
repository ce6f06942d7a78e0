use Rattle.std.proofs.Common.{length}
use Rattle.electric.specs.Gathered.{HandedOn}
use Rattle.electric.proofs.gathered.Gathered.flush.Given as goal

abbrev pub invariant-loop-self : goal.invariant-loop-self
invariant-loop-self g l = HandedOn (g.S.Sink.shown l.fn.self.sink) (g.S.Sink.shown l.self.sink) l.fn.self.bytes l.self.bytes

abbrev pub decreases-loop-self : goal.decreases-loop-self
decreases-loop-self g l = length l.self.bytes
