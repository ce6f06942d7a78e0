use Rattle.std.proofs.Common.{ap, subst}
use Rattle.et_base.specs.Utf.{ExplainsUtf}
use Rattle.et_base.proofs.UtfLaws.{units_read-spelled, units_read-bad}
use Rattle.class_pool.specs.Pool.{units_or}
use Rattle.class_pool.proofs.pool.units_of.Goals as goal

pub returns-in-Ok : goal.returns-in-Ok
returns-in-Ok c = ap (units_or c.args.left) (units_read-spelled c.args.run.now c.in-Ok.units c.in-Ok.ensures.spelled c.in-Ok.ensures.units)

pub returns-in-Err-BadUtf : goal.returns-in-Err-BadUtf
returns-in-Err-BadUtf c =
    rw c.saturating_sub.ensures (ap (units_or c.args.left) (units_read-bad c.args.run.now c.in-Err-BadUtf.at (subst (ExplainsUtf c.args.run.now) c.in-Err-BadUtf.field-0-is c.in-Err-BadUtf.ensures.fault)))
