use Rattle.std.proofs.Common.{arith}
use Rattle.suite_gen.specs.Bytes.{field_bytes}
use Rattle.suite_gen.proofs.Ranges.{grown}
use Rattle.suite_gen.proofs.class.push_fields.Goals as goal

pub loop-group-preserved : goal.loop-group-preserved
loop-group-preserved c = grown field_bytes _ _ _ 0 c.loop-group.group c.loop-group.group (omega arith) c.loop-group.invariant c.in_ok-push_field.ensures
