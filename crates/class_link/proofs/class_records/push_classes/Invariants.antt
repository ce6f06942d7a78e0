use Rattle.std.proofs.Common.{◌≡◌, ◌≤◌, ◌+◌, ◌*◌, ◌++◌, drop}
use Rattle.class_link.specs.Assembly.{class_recs}
use Rattle.class_link.proofs.class_records.push_classes.Given as goal

abbrev pub invariant-loop-class : goal.invariant-loop-class
invariant-loop-class l = record {
  rest : l.made ++ class_recs l.names l.field l.method (drop l.class-index l.classes) ≡ l.initial.made ++ class_recs l.names l.initial.field l.initial.method l.classes;
  fields : l.field ≤ 65536 * (l.class-index + 1);
  methods : l.method ≤ 65536 * (l.class-index + 1);
}
