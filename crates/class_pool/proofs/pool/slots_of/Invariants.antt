use Rattle.std.proofs.Common.{◌≡◌, ◌-◌, []}
use Rattle.class_pool.specs.{Loops.counted, Pool.slot_at, Pool.is_second}
use Rattle.class_pool.proofs.pool.slots_of.Given as goal

abbrev pub invariant-loop-i : goal.invariant-loop-i
invariant-loop-i l = record {
  so_far : counted slot_at l.slots (l.most - l.i) l.rest ≡ counted slot_at [] l.most l.bytes;
  second : l.second ≡ is_second l.slots;
}
