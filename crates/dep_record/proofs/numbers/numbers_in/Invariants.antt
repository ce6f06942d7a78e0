use Rattle.std.proofs.Common.{◌≡◌, ◌++◌, length}
use Rattle.std.specs.Option.{option_map}
use Rattle.dep_record.specs.Fields.{numbers_in}
use Rattle.dep_record.proofs.numbers.numbers_in.Given as goal

-- the numbers so far, and those that are left
abbrev pub invariant-loop-piece : goal.invariant-loop-piece
invariant-loop-piece l = option_map (λ ns. l.numbers ++ ns) (numbers_in l.left) ≡ numbers_in l.text

abbrev pub decreases-loop-piece : goal.decreases-loop-piece
decreases-loop-piece l = length l.left
