use Rattle.std.proofs.Common.{refl}
use Rattle.quiet_init.proofs.Lists.{flag_more}
use Rattle.quiet_init.proofs.quietness.flagged.Goals as goal

pub loop-class-preserved : goal.loop-class-preserved
loop-class-preserved c = flag_more c.args.flags.now c.loop-class.classes c.push_flagged.new.classes c.loop-class.class _ c.in_ok-push_flagged.ensures refl c.loop-class.invariant
