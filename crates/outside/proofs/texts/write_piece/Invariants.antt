use Rattle.std.proofs.Common.{length}
use Rattle.outside.proofs.SinkLemmas.{Took}
use Rattle.outside.proofs.texts.write_piece.Given as goal

abbrev pub invariant-loop-rest : goal.invariant-loop-rest
invariant-loop-rest g l = Took (g.S.Sink.shown l.fn.sink) (g.S.Sink.shown l.sink) l.fn.piece l.rest

abbrev pub decreases-loop-rest : goal.decreases-loop-rest
decreases-loop-rest g l = length l.rest
