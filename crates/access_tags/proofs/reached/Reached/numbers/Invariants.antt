use Rattle.std.proofs.Common.{◌≡◌, true}
use Rattle.access_tags.proofs.Ascending.{AreNumbers}
use Rattle.order_law.specs.RecordForm.{numbers_ascend}
use Rattle.access_tags.proofs.reached.Reached.numbers.Given as goal

abbrev pub invariant-loop-class : goal.invariant-loop-class
invariant-loop-class l = record {
  ascending : numbers_ascend l.numbers ≡ true;
  numbers : AreNumbers l.self.marks.items l.class l.numbers;
}
