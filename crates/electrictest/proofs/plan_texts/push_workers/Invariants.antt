use Rattle.std.proofs.Common.{◌≡◌, ◌++◌, ◌+◌, drop}
use Rattle.electrictest.specs.PlanTexts.{worker_lines}
use Rattle.electrictest.proofs.plan_texts.push_workers.Given as goal

-- what was written, and the lines that are left
abbrev pub invariant-loop-index : goal.invariant-loop-index
invariant-loop-index l = l.out ++ worker_lines (l.index + 1) (drop l.index l.shares) ≡ l.fn.out ++ worker_lines 1 l.shares
