use Rattle.std.proofs.Common.{◌≡◌, take}
use Rattle.std.specs.List.{list_any}
use Rattle.impact_pick.specs.Pick as pick
use Rattle.impact_pick.proofs.hits.is_hit.Given as goal

abbrev pub invariant-loop-class : goal.invariant-loop-class
invariant-loop-class l = l.found ≡ list_any (pick.is_changed l.m l.prints) (take l.class-index l.reach.classes)
