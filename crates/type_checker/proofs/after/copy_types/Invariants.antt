use Rattle.std.proofs.Common.{◌≡◌, take}
use Rattle.type_checker.proofs.after.copy_types.Given as goal

abbrev pub invariant-loop-t : goal.invariant-loop-t
invariant-loop-t l = l.copies.items ≡ take l.t-index l.types
