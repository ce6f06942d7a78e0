use Rattle.std.proofs.Common.{arith}
use Rattle.dep_record.proofs.DepsLaws.{conflicts_on}
use Rattle.dep_record.proofs.report_text.push_conflicts.Goals as goal

pub loop-index-preserved : goal.loop-index-preserved
loop-index-preserved c =
    conflicts_on c.args.names.now c.args.edges.now c.args.shown.now c.loop-index.index c.index-edges-index.result c.index-shown-index.result _ _ _ c.loop-index-test.true (omega arith)
    c.index-edges-index.is c.index-shown-index.is c.in_ok-push_conflict.ensures c.loop-index.invariant
