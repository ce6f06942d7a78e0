use Rattle.std.proofs.Common.{Some}
use Rattle.access_tags.proofs.Following.{head_again}
use Rattle.access_tags.proofs.memory.TaggedMemory.has_noted_head.Goals as goal

pub returns-in-Some : goal.returns-in-Some
returns-in-Some g c e kind = head_again c.args.self.now c.args.object c.in-Some.at (Some kind) c.in-Some.ensures (c.covers.ensures e)
