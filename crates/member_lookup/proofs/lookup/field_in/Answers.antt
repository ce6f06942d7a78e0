use Rattle.member_lookup.proofs.Lookups.{field_step}
use Rattle.member_lookup.proofs.lookup.field_in.Goals as goal

pub returns-in-Some : goal.returns-in-Some
returns-in-Some c = field_step c.args.p.now c.args.name.now c.args.descriptor.now c.args.classes.now _ _ _ c.loop-class-test.true c.in-Some.ensures c.loop-class.invariant

pub loop-class-preserved : goal.loop-class-preserved
loop-class-preserved c = field_step c.args.p.now c.args.name.now c.args.descriptor.now c.args.classes.now _ _ _ c.loop-class-test.true c.in_default.ensures c.loop-class.invariant
