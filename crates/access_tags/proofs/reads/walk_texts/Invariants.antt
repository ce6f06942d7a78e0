use Rattle.std.proofs.Common.{◌≡◌, [], map, take}
use Rattle.order_law.specs.Walk.{read_text}
use Rattle.access_tags.specs.Numbering.{located}
use Rattle.access_tags.proofs.reads.walk_texts.Given as goal

abbrev pub invariant-loop-spot : goal.invariant-loop-spot
invariant-loop-spot l = l.texts ≡ map (λ x. read_text l.p (located [] x)) (take l.spot-index l.walk)
