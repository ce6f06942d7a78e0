use Rattle.std.proofs.Common.{◌≡◌, ◌+◌, length, ◌≤◌}
use Rattle.jvm_model.specs.Descriptors.{at_type, types_in}
use Rattle.jvm_model.proofs.descriptors.parameter_count.Given as goal

-- the types so far, and those of what is left
abbrev pub invariant-loop-others : goal.invariant-loop-others
invariant-loop-others l = record {
  whole : l.count + length (types_in at_type l.rest) ≡ length (types_in at_type l.initial.rest);
  fits : l.count + length l.rest ≤ length l.initial.rest;
}

abbrev pub decreases-loop-others : goal.decreases-loop-others
decreases-loop-others l = length l.rest
