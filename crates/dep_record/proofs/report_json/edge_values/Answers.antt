use Rattle.std.proofs.Common.{arith}
use Rattle.std.proofs.lemmas.Grind.{common_steps}
use Rattle.dep_record.proofs.JsonLaws.{edges_more}
use Rattle.dep_record.proofs.report_json.edge_values.Goals as goal

pub loop-index-preserved : goal.loop-index-preserved
loop-index-preserved c =
    let edge = c.index-edges-index.result in
    let shown = c.index-shown-index.result in
    let more = edges_more c.args.names.now c.args.edges.now c.args.shown.now c.loop-index.index edge shown c.loop-index-test.true (omega arith) in
    grind (arith, common_steps)
