use Rattle.std.proofs.Common.{◌≡◌, ◌++◌, map, drop}
use Rattle.dep_record.specs.{RecordText.text_of, DepsText.place_line}
use Rattle.dep_record.proofs.report_text.push_places.Given as goal

-- what was written, and the lines that are left
abbrev pub invariant-loop-place : goal.invariant-loop-place
invariant-loop-place l = l.out ++ text_of (map place_line (drop l.place-index l.places)) ≡ l.fn.out ++ text_of (map place_line l.places)
