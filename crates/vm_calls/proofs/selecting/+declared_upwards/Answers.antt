use Rattle.std.proofs.Common.{◌<◌, arith}
use Rattle.vm_calls.specs.Choices.{is_wanted}
use Rattle.vm_calls.proofs.Choosing.{declared_next}
use Rattle.vm_calls.proofs.selecting.+declared_upwards.Goals as goal

pub returns-in-Some-superclass : goal.returns-in-Some-superclass
returns-in-Some-superclass t c =
    let some = c.if-steps-eq0.false in
    let more : 0 < c.args.steps = omega arith in
    declared_next c.args.p.now (λ n. is_wanted c.args.p.now c.args.privates c.args.method n) c.args.steps c.args.class c.in-Some-superclass.above c.declared_upwards.result more c.in_default.ensures c.in-Some-superclass.ensures c.declared_upwards.ensures
