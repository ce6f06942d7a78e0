use Rattle.vm_tables.proofs.Started.{part_more}
use Rattle.vm_tables.proofs.init_plan.push_interfaces.Goals as goal

pub loop-interface-preserved : goal.loop-interface-preserved
loop-interface-preserved c = part_more c.args.trivial.now c.args.interfaces.now c.loop-interface.interface-index _ _ _ c.loop-interface-test.true c.loop-interface.invariant c.in_ok-push_part.ensures
