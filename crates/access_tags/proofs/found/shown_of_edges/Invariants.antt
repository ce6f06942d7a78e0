use Rattle.std.proofs.Common.{◌+◌, ◌≤◌, true, length}
use Rattle.order_law.specs.{Histories.Touches, OwnRecord.owner_in, Pairing.PairedList, Walk.IsShownIn}
use Rattle.access_tags.specs.{AreNames.AreNames, FoundIn.AreEnded, FoundIn.edges_up_to, Ran.HaveWalks}
use Rattle.access_tags.proofs.found.shown_of_edges.Given as goal

abbrev pub invariant-loop-test : goal.invariant-loop-test
invariant-loop-test l = (T : Touches) → AreEnded true T l.names l.ended l.last → AreNames l.names → HaveWalks l.p T → length l.ended + 1 ≤ length l.p.tests →
    PairedList (IsShownIn l.p T (owner_in l.made)) (edges_up_to l.p T (owner_in l.made) l.test-index) l.shown
