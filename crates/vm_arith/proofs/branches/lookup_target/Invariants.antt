use Rattle.std.proofs.Common.{◌≡◌, drop}
use Rattle.jvm_model.specs.RowsBranches as branches
use Rattle.vm_arith.proofs.branches.lookup_target.Given as goal

-- the pairs from the index on give what all give
abbrev pub invariant-loop-key : goal.invariant-loop-key
invariant-loop-key l = branches.lookup_target (drop l.key-index l.pairs) l.other l.n ≡ branches.lookup_target l.pairs l.other l.n
