use Rattle.std.proofs.Common.{◌≡◌, ◌≤◌, ◌+◌, ◌++◌, length, map, drop}
use Rattle.class_link.specs.{ClassNames.own_name, Faults.duplicate}
use Rattle.class_link.proofs.names.note_classes.Given as goal

abbrev pub invariant-loop-class : goal.invariant-loop-class
invariant-loop-class l = record {
  rest : l.names ++ map own_name (drop l.class-index l.classes) ≡ l.initial.names ++ map own_name l.classes;
  fault : duplicate l.names (drop l.class-index l.classes) ≡ duplicate l.initial.names l.classes;
  few : length l.names ≤ length l.initial.names + l.class-index;
}
