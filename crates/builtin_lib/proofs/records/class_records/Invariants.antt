use Rattle.std.proofs.Common.{◌≡◌, ◌++◌, ◌+◌, drop, map}
use Rattle.jvm_model.specs.Library.{class_recs}
use Rattle.builtin_lib.specs.Rows.{class_of, field_count, method_count}
use Rattle.builtin_lib.proofs.records.class_records.Given as goal

abbrev pub invariant-loop-row : goal.invariant-loop-row
invariant-loop-row l = record {
  made : l.made.items ++ class_recs (map class_of l.rows) l.field l.method (map class_of (drop l.row-index l.rows)) ≡ class_recs (map class_of l.rows) 0 0 (map class_of l.rows);
  fields : l.field + field_count (map class_of (drop l.row-index l.rows)) ≡ field_count (map class_of l.rows);
  methods : l.method + method_count (map class_of (drop l.row-index l.rows)) ≡ method_count (map class_of l.rows);
}
