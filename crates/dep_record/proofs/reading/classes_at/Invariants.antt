use Rattle.std.proofs.Common.{◌≡◌, ◌+◌, ◌-◌}
use Rattle.dep_record.specs.{Fields.class_of, RecordReading.pieces, RecordReading.lines_by}
use Rattle.dep_record.proofs.LineLaws.{with_front}
use Rattle.dep_record.proofs.reading.classes_at.Given as goal

-- what was found so far, and what is left
abbrev pub invariant-loop-index : goal.invariant-loop-index
invariant-loop-index l = with_front l.classes (lines_by class_of (l.count - l.index) (l.index + 1) (6 + l.index) (pieces l.left)) ≡ lines_by class_of l.count 1 6 (pieces l.text)
