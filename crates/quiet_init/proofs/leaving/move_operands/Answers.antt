use Rattle.quiet_init.proofs.Leaves.{goes_calmly}
use Rattle.quiet_init.proofs.leaving.move_operands.Goals as goal

pub returns : goal.returns
returns c = goes_calmly c.args.form.now c.args.next c.arith.result c.args.stack.now c.arith.new.stack c.arith.new.left c.requires.form c.arith.ensures
