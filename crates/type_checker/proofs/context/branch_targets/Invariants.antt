use Rattle.std.proofs.Common.{◌≡◌, take}
use Rattle.std.specs.List.{flat_map}
use Rattle.type_frames.specs.Environment.{leads}
use Rattle.type_checker.proofs.context.branch_targets.Given as goal

abbrev pub invariant-loop-x : goal.invariant-loop-x
invariant-loop-x l = l.places.items ≡ flat_map (λ x. leads x.form) (take l.x-index l.code)
