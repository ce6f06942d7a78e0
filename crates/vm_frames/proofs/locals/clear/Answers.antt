use Rattle.std.proofs.Common.{◌+◌, take, length, ap, ◌∙◌, arith, length-set}
use Rattle.vm_frames.proofs.Frames.{clear_more}
use Rattle.vm_frames.proofs.locals.clear.Goals as goal

pub loop-place-preserved : goal.loop-place-preserved
loop-place-preserved c = record {
  filled = ap (take (c.loop-place.place + 1)) c.set.ensures ∙ clear_more c.args.slots.now c.loop-place.slots c.args.from c.loop-place.place (omega arith) (omega arith) c.loop-place.invariant.filled;
  kept = ap length c.set.ensures ∙ (length-set _ _ _ ∙ c.loop-place.invariant.kept);
}
