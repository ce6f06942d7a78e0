use Rattle.std.proofs.Common.{subst}
use Rattle.class_pool.proofs.WriteLaw.{SlotFits, slots_fit}
use Rattle.class_pool.proofs.write.put_slots.Goals as goal

pub put_entry-requires : goal.put_entry-requires
put_entry-requires c = subst SlotFits c.in-Some.is (rw c.slot-item.is (slots_fit c.args.slots.now c.requires c.loop-slot.slot-index _ c.loop-slot-test.true))
