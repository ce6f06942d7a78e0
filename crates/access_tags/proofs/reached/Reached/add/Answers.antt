use Rattle.std.proofs.Common.{◌∙◌, sym}
use Rattle.access_tags.proofs.Closing.{add_reached}
use Rattle.access_tags.proofs.reached.Reached.add.Goals as goal

pub invariant_of-self-2 : goal.invariant_of-self-2
invariant_of-self-2 c = let s = c.args.self.now in record { sound = rw c.in_ok-push.ensures.items (add_reached s.marks.items s.classes.items c.args.class (sym c.is_new.ensures ∙ c.if-not-is_new.false) s.sound) }
