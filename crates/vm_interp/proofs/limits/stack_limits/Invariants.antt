use Rattle.std.proofs.Common.{ℕ, ◌<◌, ◌≤◌, IfSome}
use Rattle.jvm_model.specs.Classes.{method_at}
use Rattle.check_sound.specs.ReachLaw.{most_operands}
use Rattle.vm_interp.proofs.limits.stack_limits.Given as goal

-- none of the methods before the index does
abbrev pub invariant-loop-method : goal.invariant-loop-method
invariant-loop-method l = (m : ℕ) → m < l.method-index → IfSome (method_at l.p m).body (λ b. b.max_stack ≤ most_operands)
