use Rattle.std.proofs.Common.{◌≡◌, ◌+◌, drop}
use Rattle.class_link.specs.Assembly.{initialiser_from}
use Rattle.class_link.proofs.class_records.initialiser_from.Given as goal

abbrev pub invariant-loop-part : goal.invariant-loop-part
invariant-loop-part l = record {
  rest : initialiser_from l.number l.slots (drop l.part-index l.parts) ≡ initialiser_from l.first l.slots l.parts;
  number : l.number ≡ l.first + l.part-index;
}
