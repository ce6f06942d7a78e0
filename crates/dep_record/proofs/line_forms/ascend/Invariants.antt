use Rattle.std.proofs.Common.{◌≡◌, length}
use Rattle.order_law.specs.RecordForm.{numbers_ascend}
use Rattle.dep_record.proofs.line_forms.ascend.Given as goal

-- the numbers that are left ascend where all do
abbrev pub invariant-loop-left : goal.invariant-loop-left
invariant-loop-left l = numbers_ascend l.left ≡ numbers_ascend l.numbers

abbrev pub decreases-loop-left : goal.decreases-loop-left
decreases-loop-left l = length l.left
