use Rattle.std.proofs.Common.{◌≡◌, ◌++◌, ◌+◌, drop}
use Rattle.electrictest.specs.PlanTexts.{chain_lines}
use Rattle.electrictest.proofs.plan_texts.push_chains.Given as goal

-- what was written, and the lines that are left
abbrev pub invariant-loop-index : goal.invariant-loop-index
invariant-loop-index l = l.out ++ chain_lines l.units (l.index + 1) (drop l.index l.lists) ≡ l.fn.out ++ chain_lines l.units 1 l.lists
