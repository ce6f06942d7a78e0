use Rattle.std.proofs.Common.{ℕ, List, ◌++◌, map, take, flat_map}
use Rattle.sha2.specs.Hashers.{Holds256}
use Rattle.dep_record.specs.Hashes.{sized}
use Rattle.dep_record.proofs.hashes.add_classes.Given as goal

-- the files so far are held
abbrev pub invariant-loop-class : goal.invariant-loop-class
invariant-loop-class l = (m : List ℕ) → Holds256 l.fn.sum m → Holds256 l.sum (m ++ flat_map sized (map (λ c. c.items) (take l.class-index l.classes)))
