use Rattle.std.proofs.Common.{◌≡◌, ◌+◌, drop, map, take}
use Rattle.jvm_model.specs.Builtin.{builtin_count}
use Rattle.class_link.specs.{Bodies.targets, Faults.all_references_fault}
use Rattle.class_link.proofs.reference_faults.check_all_references.Given as goal

-- the first fault of the classes from here on is that of all
abbrev pub invariant-loop-place : goal.invariant-loop-place
invariant-loop-place l = record {
  fault : all_references_fault l.setting (builtin_count + l.place) (drop l.place l.classes) ≡ all_references_fault l.setting builtin_count l.classes;
  resolved : l.all ≡ map (λ c. targets l.setting c.pool) (take l.place l.classes);
}
