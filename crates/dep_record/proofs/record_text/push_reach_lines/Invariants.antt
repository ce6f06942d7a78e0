use Rattle.std.proofs.Common.{◌≡◌, ◌++◌, ◌+◌, drop}
use Rattle.dep_record.specs.RecordText.{text_of, numbered, reach_line}
use Rattle.dep_record.proofs.record_text.push_reach_lines.Given as goal

-- what was written, and the lines that are left
abbrev pub invariant-loop-index : goal.invariant-loop-index
invariant-loop-index l = l.out ++ text_of (numbered reach_line (l.index + 1) (drop l.index l.reach)) ≡ l.fn.out ++ text_of (numbered reach_line 1 l.reach)
