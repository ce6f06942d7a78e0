use Rattle.cone_run.proofs.TallyLaws.{few_pieces, piece_more}
use Rattle.cone_run.proofs.cone_report.tally_of.Goals as goal

pub add-requires-clause-few : goal.add-requires-clause-few
add-requires-clause-few c =
    few_pieces c.args.names.now c.args.tests.now c.args.pieces.now c.requires.each c.loop-index.index c.loop-index.tally c.loop-index-test.true c.requires.few c.loop-index.invariant

pub loop-index-preserved : goal.loop-index-preserved
loop-index-preserved c =
    piece_more c.args.names.now c.args.tests.now c.args.pieces.now c.requires.each c.loop-index.index c.index-pieces-index.result c.outcome.result.now c.loop-index.tally c.add.new.self c.loop-index-test.true c.index-pieces-index.is c.outcome.ensures.gives c.in_ok-add.ensures c.loop-index.invariant
