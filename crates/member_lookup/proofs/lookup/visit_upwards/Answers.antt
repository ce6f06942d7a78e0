use Rattle.std.proofs.Common.{arith, subst}
use Rattle.member_lookup.proofs.Lookups.{Climbs, climbs_more}
use Rattle.member_lookup.proofs.lookup.visit_upwards.Goals as goal

pub loop-next-preserved : goal.loop-next-preserved
loop-next-preserved c =
    climbs_more c.args.p.now c.args.class c.loop-next.steps _ c.in-Some.above _ _ _ _ _ (omega arith) c.class_bound.ensures c.interfaces.ensures c.superclass-next.ensures
    (subst (λ o. Climbs c.args.p.now c.args.class c.loop-next.steps o c.args.seen.now c.loop-next.seen) c.in-Some.is c.loop-next.invariant) c.in_ok-visit_all.ensures
