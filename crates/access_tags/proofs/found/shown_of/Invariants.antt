use Rattle.std.proofs.Common.{◌≡◌, take}
use Rattle.order_law.specs.OwnRecord.{owner_in}
use Rattle.access_tags.specs.Places.{places_by}
use Rattle.access_tags.proofs.found.shown_of.Given as goal

abbrev pub invariant-loop-i : goal.invariant-loop-i
invariant-loop-i l = l.places ≡ take l.i (places_by l.p (owner_in l.made) l.names l.spots l.walks)
