use Rattle.suite_gen.proofs.Parts.{four}
use Rattle.suite_gen.proofs.code.push_printing.Goals as goal

pub returns : goal.returns
returns c = four _ _ _ _ _ _ _ _ _ c.in_ok-push_limits.ensures c.in_ok-push_field_op.ensures c.in_ok-push_op.ensures c.in_ok-push_end.ensures
