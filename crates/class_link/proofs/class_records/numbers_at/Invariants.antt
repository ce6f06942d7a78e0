use Rattle.std.proofs.Common.{◌≡◌, map, take}
use Rattle.class_link.specs.ClassNames.{name_at, number_or_first}
use Rattle.class_link.proofs.class_records.numbers_at.Given as goal

abbrev pub invariant-loop-index : goal.invariant-loop-index
invariant-loop-index l = l.made ≡ map (λ i. number_or_first l.names (name_at l.slots i)) (take l.index-index l.indices)
