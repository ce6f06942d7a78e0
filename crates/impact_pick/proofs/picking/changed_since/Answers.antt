use Rattle.impact_pick.specs.Pick.{is_changed}
use Rattle.impact_pick.proofs.Next.{next_found}
use Rattle.impact_pick.proofs.picking.changed_since.Goals as goal

-- src/picking.rt:31:5
pub loop-i-preserved : goal.loop-i-preserved
loop-i-preserved c =
    next_found (is_changed c.args.m.now c.args.prints.now) c.loop-i.i c.is_changed.result c.loop-i.files c.push_where.new.list c.loop-i.invariant c.is_changed.ensures c.in_ok-push_where.ensures
