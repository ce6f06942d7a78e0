use Rattle.std.proofs.Common.{◌≡◌, ◌++◌, drop}
use Rattle.std.specs.List.{flat_map}
use Rattle.cone_run.specs.ManifestText.{mark_line}
use Rattle.cone_run.proofs.mark_report.push_marks.Given as goal

-- what was written, and the lines that are left
abbrev pub invariant-loop-mark : goal.invariant-loop-mark
invariant-loop-mark l = l.out ++ flat_map (mark_line l.names) (drop l.mark-index l.marks) ≡ l.fn.out ++ flat_map (mark_line l.names) l.marks
