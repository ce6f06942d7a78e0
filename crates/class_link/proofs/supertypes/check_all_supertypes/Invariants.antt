use Rattle.std.proofs.Common.{◌≡◌, drop}
use Rattle.class_link.specs.Faults.{first_some, supertypes_fault}
use Rattle.class_link.proofs.supertypes.check_all_supertypes.Given as goal

-- the first fault of the classes from here on is that of all
abbrev pub invariant-loop-class : goal.invariant-loop-class
invariant-loop-class l = first_some (supertypes_fault l.setting) (drop l.class-index l.classes) ≡ first_some (supertypes_fault l.setting) l.classes
