use Rattle.std.proofs.Common.{arith, refl}
use Rattle.member_lookup.proofs.Lookups.{declared_step}
use Rattle.member_lookup.proofs.lookup.declared_upwards.Goals as goal

pub returns-in-Some-own_method : goal.returns-in-Some-own_method
returns-in-Some-own_method c = declared_step c.args.p.now c.args.name.now c.args.descriptor.now c.loop-next.steps c.in-Some.above _ _ _ _ (omega arith) c.in-Some.is refl c.in-Some-own_method.ensures c.loop-next.invariant

pub loop-next-preserved : goal.loop-next-preserved
loop-next-preserved c =
    declared_step c.args.p.now c.args.name.now c.args.descriptor.now c.loop-next.steps c.in-Some.above _ _ _ _ (omega arith) c.in-Some.is c.superclass-next.ensures c.in_default-own_method.ensures c.loop-next.invariant
