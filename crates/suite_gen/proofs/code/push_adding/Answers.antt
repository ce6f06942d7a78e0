use Rattle.suite_gen.proofs.Parts.{six}
use Rattle.suite_gen.proofs.code.push_adding.Goals as goal

pub returns : goal.returns
returns c = six _ _ _ _ _ _ _ _ _ _ _ _ _ c.in_ok-push_limits.ensures c.in_ok-push_field_op.ensures c.in_ok-push_op.ensures c.in_ok-push.ensures.pushed c.in_ok-push_field_op-2.ensures c.in_ok-push_end.ensures
