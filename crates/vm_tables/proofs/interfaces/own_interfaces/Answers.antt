use Rattle.vm_tables.proofs.Gathering.{own_gathered}
use Rattle.vm_tables.proofs.interfaces.own_interfaces.Goals as goal

pub returns : goal.returns
returns c = own_gathered c.args.p.now c.args.class c.interfaces.result.now _ _ c.interfaces.ensures c.new-noted.ensures.empty c.in_ok-gather_all.ensures
