use Rattle.std.proofs.Common.{◌≡◌, ◌≤◌, ◌+◌, length, map, drop}
use Rattle.class_link.specs.Literals.{noted}
use Rattle.class_link.proofs.names.note_records.Given as goal

abbrev pub invariant-loop-class : goal.invariant-loop-class
invariant-loop-class l = record {
  rest : noted l.names (map (λ c. c.name) (drop l.class-index l.classes)) ≡ noted l.initial.names (map (λ c. c.name) l.classes);
  few : length l.names ≤ length l.initial.names + l.class-index;
}
