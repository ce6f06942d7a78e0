use Rattle.member_lookup.proofs.Lookups.{Climbs}
use Rattle.member_lookup.proofs.lookup.visit_upwards.Given as goal

abbrev pub invariant-loop-next : goal.invariant-loop-next
invariant-loop-next l = Climbs l.p l.class l.steps l.next l.fn.seen l.seen

abbrev pub decreases-loop-next : goal.decreases-loop-next
decreases-loop-next l = l.steps
