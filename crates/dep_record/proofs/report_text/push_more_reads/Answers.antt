use Rattle.std.proofs.Common.{◌≡◌, ◌∙◌, get_or}
use Rattle.dep_record.proofs.DepsLaws.{reads_on}
use Rattle.dep_record.proofs.report_text.push_more_reads.Goals as goal

pub loop-read-preserved : goal.loop-read-preserved
loop-read-preserved c =
    let read = c.read-item.result in
    let one : c.as_slice.result.now ≡ get_or c.args.reads.now c.loop-read.read-index read = c.as_slice.ensures ∙ c.read-item.is in
    reads_on c.args.reads.now c.loop-read.read-index read _ _ _ _ c.loop-read-test.true c.in_ok-extend_from_slice.ensures.pushed (rw one at c.in_ok-extend_from_slice-2.ensures.pushed) c.loop-read.invariant
