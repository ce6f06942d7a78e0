use Rattle.std.proofs.Common.{◌++◌, refl}
use Rattle.jvm_model.specs.World.{at}
use Rattle.jvm_model.specs.declared.values.Location.TheVariants as place
use Rattle.access_tags.specs.declared.conflict.LocationKey.TheVariants as spot
use Rattle.access_tags.proofs.Following.{write_noted}
use Rattle.access_tags.proofs.memory.TaggedMemoryMemory.append_text.Goals as goal

pub returns-clause-told : goal.returns-clause-told
returns-clause-told g c = write_noted c.args.self.now c.note.new.self c.append_text.new.self (spot.Text c.args.object) (at c.args.self.now.memory.world (place.Text c.args.object) ++ c.args.more.now) refl refl c.requires c.in_ok-append_text.ensures.of c.in_ok-append_text.ensures.set c.in_ok-note.ensures.told
