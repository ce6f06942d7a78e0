use Rattle.std.proofs.Common.{◌≡◌, ◌++◌, drop}
use Rattle.dep_record.specs.DepsText.{all_conflicts}
use Rattle.dep_record.proofs.report_text.push_conflicts.Given as goal

-- what was written, and the conflicts that are left
abbrev pub invariant-loop-index : goal.invariant-loop-index
invariant-loop-index l = l.out ++ all_conflicts l.names (drop l.index l.edges) (drop l.index l.shown) ≡ l.fn.out ++ all_conflicts l.names l.edges l.shown
