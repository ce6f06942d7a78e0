use Rattle.std.proofs.Common.{◌≡◌, ◌++◌, drop}
use Rattle.dep_record.specs.DepsText.{more_reads}
use Rattle.dep_record.proofs.report_text.push_more_reads.Given as goal

-- what was written, and the reads that are left
abbrev pub invariant-loop-read : goal.invariant-loop-read
invariant-loop-read l = l.out ++ more_reads (drop l.read-index l.reads) ≡ l.fn.out ++ more_reads l.reads
