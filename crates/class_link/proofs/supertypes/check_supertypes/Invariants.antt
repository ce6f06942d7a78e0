use Rattle.std.proofs.Common.{◌≡◌, ◌-◌}
use Rattle.std.specs.List.{range_with_len}
use Rattle.class_link.specs.Faults.{first_some, supertypes_fault, supertype_fault}
use Rattle.class_link.proofs.supertypes.check_supertypes.Given as goal

-- the first fault of the entries from here on is that of all
abbrev pub invariant-loop-index : goal.invariant-loop-index
invariant-loop-index l = first_some (supertype_fault l.setting l.class) (range_with_len l.index (l.end - l.index)) ≡ supertypes_fault l.setting l.class
