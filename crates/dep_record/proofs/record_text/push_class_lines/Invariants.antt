use Rattle.std.proofs.Common.{◌≡◌, ◌++◌, ◌+◌, drop}
use Rattle.dep_record.specs.RecordText.{text_of, numbered, class_line}
use Rattle.dep_record.proofs.record_text.push_class_lines.Given as goal

-- what was written, and the lines that are left
abbrev pub invariant-loop-index : goal.invariant-loop-index
invariant-loop-index l = l.out ++ text_of (numbered class_line (l.index + 1) (drop l.index l.classes)) ≡ l.fn.out ++ text_of (numbered class_line 1 l.classes)
