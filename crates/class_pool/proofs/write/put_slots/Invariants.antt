use Rattle.std.proofs.Common.{◌≡◌, ◌++◌, ◌+◌, length, take}
use Rattle.std.specs.{List.flat_map, Int.w16, Int.to_be_bytes}
use Rattle.class_pool.specs.PoolGrammar.{slot_bytes}
use Rattle.class_pool.proofs.write.put_slots.Given as goal

abbrev pub invariant-loop-slot : goal.invariant-loop-slot
invariant-loop-slot l = l.out.items ≡ l.fn.out.items ++ to_be_bytes w16 (length l.slots + 1) ++ flat_map slot_bytes (take l.slot-index l.slots)
