use Rattle.std.proofs.Common.{◌≡◌, [], length}
use Rattle.suite_load.specs.{LineForms.rows, SuiteForm.lines_from}
use Rattle.suite_load.proofs.suite_reading.lines_of.Given as goal

-- the lines so far and those of the rest are those of the text
abbrev pub invariant-loop-rest : goal.invariant-loop-rest
invariant-loop-rest l = lines_from l.before (rows l.rest) ≡ lines_from [] (rows l.text)

abbrev pub decreases-loop-rest : goal.decreases-loop-rest
decreases-loop-rest l = length l.rest
