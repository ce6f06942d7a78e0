-- The units of the chains so far, whose tests have numbers of 32 bits.
use Rattle.std.proofs.Common.{◌≡◌, ℕ, ◌<◌, take}
use Rattle.order_law.specs.{Conflicts.Member, Plan.chain_at}
use Rattle.schedule_plan.specs.Plans.{chain_units}
use Rattle.schedule_plan.proofs.sizes.sizes_of.Given as goal

abbrev pub invariant-loop-list : goal.invariant-loop-list
invariant-loop-list l = record {
  sizes : l.sizes.items ≡ chain_units (take l.list-index l.c.lists) l.units;
  numbers : (i t : ℕ) → i < l.list-index → Member t (chain_at l.c.lists i) → t < 4294967296;
}
