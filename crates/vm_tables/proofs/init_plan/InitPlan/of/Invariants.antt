use Rattle.std.proofs.Common.{◌≡◌, ℕ, ◌<◌, [], get_or, length, map}
use Rattle.jvm_model.specs.Initialise.{parts_of}
use Rattle.vm_tables.specs.Starts.{part_of}
use Rattle.vm_tables.proofs.init_plan.InitPlan.of.Given as goal

abbrev pub invariant-loop-class : goal.invariant-loop-class
invariant-loop-class l = record {
  many : length l.table ≡ l.class;
  listed : (c : ℕ) → c < l.class → map part_of (get_or l.table c []) ≡ parts_of l.p c;
}
