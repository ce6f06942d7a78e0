use Rattle.std.proofs.Common.{◌∙◌, arith, refl}
use Rattle.vm_frames.proofs.Frames.{copy_more}
use Rattle.vm_frames.proofs.locals.copy_arguments.Goals as goal

pub loop-place-preserved : goal.loop-place-preserved
loop-place-preserved c = record {
  written = copy_more c.args.slots.now c.loop-place.slots c.copy_argument-to.new.slots c.args.from c.args.base c.loop-place.place c.loop-place.to c.copy_argument-to.result _
      (omega arith) (omega arith) (omega arith) c.loop-place.invariant.start (omega (arith, c.loop-place.invariant.most)) c.loop-place.invariant.written
      refl c.copy_argument-to.ensures.written;
  start = omega (arith, c.loop-place.invariant.start, c.copy_argument-to.ensures.end);
  most = omega (arith, c.loop-place.invariant.most, c.copy_argument-to.ensures.most);
  kept = c.copy_argument-to.ensures.kept ∙ c.loop-place.invariant.kept;
}
