use Rattle.std.proofs.Common.{◌≡◌, ◌++◌, drop}
use Rattle.dep_record.specs.RecordText.{more_numbers}
use Rattle.impact_pick.proofs.text.push_more.Given as goal

-- what was written, and the numbers that are left
abbrev pub invariant-loop-number : goal.invariant-loop-number
invariant-loop-number l = l.out ++ more_numbers (drop l.number-index l.numbers) ≡ l.fn.out ++ more_numbers l.numbers
