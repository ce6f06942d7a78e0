use Rattle.std.proofs.Common.{◌≡◌, length, fold}
use Rattle.std.specs.Vec.Iter.{into_iter_items, into_iter_len}
use Rattle.suite_load.specs.SuiteForm.{added, empty_suite}
use Rattle.suite_load.proofs.suite_reading.suite_from.Given as goal

-- what the lines so far say and what the others add is what all say
abbrev pub invariant-loop-line : goal.invariant-loop-line
invariant-loop-line l = (fold added l.suite (into_iter_items l.line-iterator) ≡ fold added empty_suite l.fn.lines.items)
    × (into_iter_len l.line-iterator ≡ length (into_iter_items l.line-iterator))
