use Rattle.std.proofs.Common.{◌≡◌, ◌++◌, drop, map}
use Rattle.jvm_model.specs.Library.{method_recs}
use Rattle.builtin_lib.specs.Rows.{class_of}
use Rattle.builtin_lib.proofs.records.method_records.Given as goal

abbrev pub invariant-loop-row : goal.invariant-loop-row
invariant-loop-row l = (l.made.items ++ method_recs l.class (map class_of (drop l.row-index l.rows)) ≡ method_recs 0 (map class_of l.rows)) × (l.class ≡ l.row-index)
