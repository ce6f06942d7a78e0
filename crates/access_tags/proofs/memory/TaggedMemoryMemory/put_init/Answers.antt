use Rattle.std.proofs.Common.{refl}
use Rattle.access_tags.specs.declared.conflict.LocationKey.TheVariants as spot
use Rattle.access_tags.proofs.Following.{write_noted}
use Rattle.access_tags.proofs.memory.TaggedMemoryMemory.put_init.Goals as goal

pub returns-clause-told : goal.returns-clause-told
returns-clause-told g c = write_noted c.args.self.now c.note.new.self c.put_init.new.self (spot.Init c.args.class) (c.args.s) refl refl c.requires c.in_ok-put_init.ensures.of c.in_ok-put_init.ensures.set c.in_ok-note.ensures.told
