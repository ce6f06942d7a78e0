use Rattle.std.proofs.Common.{◌+◌, arith}
use Rattle.suite_gen.specs.Generated.{test_line}
use Rattle.suite_gen.proofs.Ranges.{grown}
use Rattle.suite_gen.proofs.text.push_test_lines.Goals as goal

pub loop-index-preserved : goal.loop-index-preserved
loop-index-preserved c = grown test_line _ _ _ 1 c.loop-index.index (c.loop-index.index + 1) (omega arith) c.loop-index.invariant c.in_ok-push_test_line.ensures
