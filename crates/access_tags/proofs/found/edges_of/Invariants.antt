use Rattle.std.proofs.Common.{◌≡◌, Bool, true}
use Rattle.order_law.specs.{Histories.Touches, OwnRecord.owner_in}
use Rattle.access_tags.specs.FoundIn.{AreEnded, are_printed, edges_up_to}
use Rattle.access_tags.proofs.found.edges_of.Given as goal

abbrev pub invariant-loop-i : goal.invariant-loop-i
invariant-loop-i l = record {
  printed : are_printed l.edges ≡ true;
  edges : (kept : Bool) (T : Touches) → AreEnded kept T l.names l.ended l.last → l.edges ≡ edges_up_to l.p T (owner_in l.made) l.i;
}
