use Rattle.std.proofs.Common.{◌≡◌, map, take}
use Rattle.sha2.specs.Sha256.{sha256}
use Rattle.dep_record.proofs.hashes.sums_of.Given as goal

-- the sums so far
abbrev pub invariant-loop-class : goal.invariant-loop-class
invariant-loop-class l = l.each ≡ map (λ c. sha256 c.items) (take l.class-index l.classes)
