use Rattle.type_frames.proofs.PlaceLemmas.{Tracks}
use Rattle.type_frames.proofs.places.first_indices.Given as goal

abbrev pub invariant-loop-index : goal.invariant-loop-index
invariant-loop-index l = Tracks l.numbers l.index l.first.items
