use Rattle.std.proofs.Common.{◌+◌, arith}
use Rattle.suite_gen.specs.Bytes.{method_bytes}
use Rattle.suite_gen.proofs.Ranges.{grown}
use Rattle.suite_gen.proofs.class.push_methods.Goals as goal

pub loop-index-preserved : goal.loop-index-preserved
loop-index-preserved c = grown (method_bytes c.args.k) _ _ _ 1 c.loop-index.index (c.loop-index.index + 1) (omega arith) c.loop-index.invariant c.in_ok-push_method.ensures
