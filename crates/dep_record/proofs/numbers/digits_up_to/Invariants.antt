use Rattle.std.proofs.Common.{◌≡◌, ◌≤◌, drop}
use Rattle.dep_record.proofs.NumberLaws.{digits_after}
use Rattle.dep_record.proofs.numbers.digits_up_to.Given as goal

-- the value so far and the digits left give what all digits give
abbrev pub invariant-loop-b : goal.invariant-loop-b
invariant-loop-b l = (digits_after l.most l.value (drop l.b-index l.bytes) ≡ digits_after l.most 0 l.bytes) × (l.value ≤ l.most)
