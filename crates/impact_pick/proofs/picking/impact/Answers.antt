use Rattle.impact_pick.proofs.Forms.{few_tests, within}
use Rattle.impact_pick.proofs.picking.impact.Goals as goal

-- src/picking.rt:22:20
pub picked-requires-clause-few : goal.picked-requires-clause-few
picked-requires-clause-few c = few_tests c.args.r.now c.in-Some.m c.in-Some.is

-- src/picking.rt:22:20
pub picked-requires-clause-within : goal.picked-requires-clause-within
picked-requires-clause-within c = within c.args.r.now c.in-Some.m c.in-Some.is
