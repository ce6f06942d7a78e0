use Rattle.impact_pick.proofs.Forms.{few_classes}
use Rattle.impact_pick.proofs.picking.changed.Goals as goal

-- src/picking.rt:82:20
pub changed_since-requires-clause-few : goal.changed_since-requires-clause-few
changed_since-requires-clause-few c = few_classes c.args.r.now c.in-Some.m c.in-Some.is
