use Rattle.std.proofs.Common.{arith}
use Rattle.type_frames.proofs.PlaceLemmas.{Tracks-none, Tracks-more, Tracks-all}
use Rattle.type_frames.proofs.places.first_indices.Goals as goal

pub loop-index-init : goal.loop-index-init
loop-index-init c = rw c.in_ok-first.ensures (Tracks-none _ _)

pub loop-index-preserved : goal.loop-index-preserved
loop-index-preserved c = rw c.note.ensures (Tracks-more _ _ _ c.loop-index-test.true c.loop-index.invariant)

pub returns : goal.returns
returns c = Tracks-all _ _ _ (omega arith) c.loop-index.invariant
