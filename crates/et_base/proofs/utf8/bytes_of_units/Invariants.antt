use Rattle.std.proofs.Common.{◌≡◌, ◌++◌, length}
use Rattle.et_base.specs.Quotes.{utf8_of}
use Rattle.et_base.proofs.utf8.bytes_of_units.Given as goal

abbrev pub invariant-loop-next : goal.invariant-loop-next
invariant-loop-next l = l.out.items ++ utf8_of l.rest ≡ utf8_of l.units

abbrev pub decreases-loop-next : goal.decreases-loop-next
decreases-loop-next l = length l.rest
