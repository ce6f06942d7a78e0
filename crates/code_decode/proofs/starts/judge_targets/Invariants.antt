use Rattle.std.proofs.Common.{◌≡◌, drop}
use Rattle.code_decode.specs.Targets.{is_marked, targets_fit}
use Rattle.code_decode.proofs.starts.judge_targets.Given as goal

abbrev pub invariant-loop-op : goal.invariant-loop-op
invariant-loop-op l = targets_fit l.method (is_marked l.starts) (drop l.op-index l.ops) ≡ targets_fit l.method (is_marked l.starts) l.ops
