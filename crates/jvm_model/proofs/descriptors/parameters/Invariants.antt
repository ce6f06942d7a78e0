use Rattle.std.proofs.Common.{◌≡◌, ◌++◌, length}
use Rattle.jvm_model.specs.Descriptors.{at_type, types_in}
use Rattle.jvm_model.proofs.descriptors.parameters.Given as goal

-- the types so far, and those of what is left
abbrev pub invariant-loop-text : goal.invariant-loop-text
invariant-loop-text l = l.texts ++ types_in at_type l.rest ≡ types_in at_type l.initial.rest

abbrev pub decreases-loop-text : goal.decreases-loop-text
decreases-loop-text l = length l.rest
