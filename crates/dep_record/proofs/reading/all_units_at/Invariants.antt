use Rattle.std.proofs.Common.{◌≡◌, ◌+◌, ◌-◌}
use Rattle.dep_record.specs.{Fields.units_of, RecordReading.pieces, RecordReading.lines_by}
use Rattle.dep_record.proofs.LineLaws.{with_front}
use Rattle.dep_record.proofs.reading.all_units_at.Given as goal

-- what was found so far, and what is left
abbrev pub invariant-loop-index : goal.invariant-loop-index
invariant-loop-index l = with_front l.units (lines_by units_of (l.tests - l.index) (l.index + 1) (l.first + l.index) (pieces l.left)) ≡ lines_by units_of l.tests 1 l.first (pieces l.text)
