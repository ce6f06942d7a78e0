use Rattle.std.proofs.Common.{◌∙◌, sym}
use Rattle.access_tags.proofs.FirstReads.{meet_ungiven, meet_write, meet_again, meet_first}
use Rattle.access_tags.proofs.discovery_tree.DiscoveryTree.note.Goals as goal
use Rattle.access_tags.proofs.discovery_tree.DiscoveryTree.note.Goals.{then-write-via-then-write, then-write-via-else-write+then-has_met}

pub returns-in_default : goal.returns-in_default
returns-in_default c ts x w l g m = meet_ungiven c.args.test ts x c.args.self.now.met m (g ∙ c.in_default.is)

pub returns-then-write : goal.returns-then-write
returns-then-write c ts x w l g m = elim c.then-write.branch [
  | then-write-via-then-write b ↦ meet_write c.args.test ts x c.args.self.now.met m (w ∙ b.if-write.true)
  | then-write-via-else-write+then-has_met b ↦ meet_again c.args.test ts x c.args.self.now.met m c.in-Some.object (w ∙ b.if-write.false) (g ∙ c.in-Some.is) (λ p. sym (b.has_met.ensures p) ∙ b.if-has_met.true)
]

pub returns : goal.returns
returns c ts x w l g m = rw c.set.ensures (meet_first c.args.test ts x c.args.self.now.met m c.in-Some.object (w ∙ c.if-write.false) (g ∙ c.in-Some.is) c.args.spot c.make_room.new.cells l
    (λ p. sym (c.has_met.ensures p) ∙ c.if-has_met.false) c.in_ok-make_room.ensures.kept c.in_ok-make_room.ensures.room)
