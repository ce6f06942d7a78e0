use Rattle.std.proofs.Common.{refl}
use Rattle.outside.specs.Sink.{appended, lowered, HasRoom}
use Rattle.outside.proofs.SinkLemmas.{none_at_err}
use Rattle.outside.proofs.std_sink.StdSinkSink.TheImpl.Goals as goal

pub write-tells : goal.write-tells
unfolding appended lowered HasRoom
write-tells g c = record {
  within = c.ensures.within;
  told = refl;
  faults = c.ensures.later;
  none_taken = none_at_err c.result c.ensures.some c.ensures.rose;
  room = refl;
  has_room = λ none. absurd none;
}
