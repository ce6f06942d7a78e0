use Rattle.std.proofs.Common.{Some, ap, refl}
use Rattle.outside.specs.Sink.{appended, lowered, HasRoom}
use Rattle.outside.proofs.SinkLemmas.{within_min, none_at_err}
use Rattle.outside.proofs.memory_sink.MemorySinkSink.TheImpl.Goals as goal

pub write-tells : goal.write-tells
unfolding appended lowered HasRoom
write-tells c = record {
  within = within_min c.result _ _ c.ensures.taken;
  told = ap (λ bytes. Some bytes) c.ensures.held;
  faults = c.ensures.later;
  none_taken = none_at_err c.result c.ensures.some c.ensures.rose;
  room = refl;
  has_room = λ none. absurd none;
}
