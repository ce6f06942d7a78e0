use Rattle.std.proofs.Common.{◌∙◌}
use Rattle.quiet_init.specs.Quiet.{is_quiet}
use Rattle.quiet_init.proofs.Lists.{pushed, starts_listed}
use Rattle.quiet_init.proofs.quietness.quiet_flags.Goals as goal

pub is_quiet-requires-clause-starts : goal.is_quiet-requires-clause-starts
is_quiet-requires-clause-starts c = starts_listed c.args.p.now c.as_slice.result.now (c.as_slice.ensures ∙ c.in_ok-starts.ensures)

pub loop-class-preserved : goal.loop-class-preserved
loop-class-preserved c = pushed (is_quiet c.args.p.now) c.loop-class.flags c.push.new.self c.loop-class.class c.is_quiet.result c.in_ok-push.ensures.pushed c.is_quiet.ensures c.loop-class.invariant
