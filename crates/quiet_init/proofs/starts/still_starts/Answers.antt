use Rattle.quiet_init.specs.Quiet.{is_still_start}
use Rattle.quiet_init.proofs.Lists.{pushed}
use Rattle.quiet_init.proofs.starts.still_starts.Goals as goal

pub loop-class-preserved : goal.loop-class-preserved
loop-class-preserved c = pushed (is_still_start c.args.p.now) c.loop-class.starts c.push.new.self c.loop-class.class c.is_still_start.result c.in_ok-push.ensures.pushed c.is_still_start.ensures c.loop-class.invariant
