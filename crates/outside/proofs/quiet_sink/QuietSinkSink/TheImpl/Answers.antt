use Rattle.std.proofs.Common.{Some, ap, arith}
use Rattle.outside.specs.Sink.{appended, lowered, HasRoom}
use Rattle.outside.proofs.SinkLemmas.{within_min, none_at_err, at_ok}
use Rattle.outside.proofs.quiet_sink.QuietSinkSink.TheImpl.Goals as goal

pub write-tells : goal.write-tells
unfolding appended lowered HasRoom
write-tells c = record {
  within = within_min c.result _ _ c.ensures.taken;
  told = ap (λ bytes. Some bytes) c.ensures.held;
  faults = c.ensures.later;
  none_taken = none_at_err c.result c.ensures.some c.ensures.rose;
  room = ap (λ left. Some left) c.ensures.room;
  has_room = λ fits. at_ok c.result c.ensures.failed.0 (λ longer. omega arith) c.ensures.no_fault;
}
