use Rattle.std.proofs.Common.{◌≡◌, length}
use Rattle.jvm_model.specs.Descriptors.{at_type, past_types}
use Rattle.jvm_model.proofs.descriptors.return_type.Given as goal

-- what follows is the same for what is left
abbrev pub invariant-loop-others : goal.invariant-loop-others
invariant-loop-others l = past_types at_type l.rest ≡ past_types at_type l.initial.rest

abbrev pub decreases-loop-others : goal.decreases-loop-others
decreases-loop-others l = length l.rest
