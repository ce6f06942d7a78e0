use Rattle.std.proofs.Common.{refl}
use Rattle.access_tags.specs.declared.conflict.LocationKey.TheVariants as spot
use Rattle.access_tags.proofs.Following.{write_noted}
use Rattle.access_tags.proofs.memory.TaggedMemoryMemory.put_elem.Goals as goal

pub returns-clause-told : goal.returns-clause-told
returns-clause-told g c = write_noted c.args.self.now c.note.new.self c.put_elem.new.self (spot.Elem c.args.object c.args.index) (c.args.v) refl refl c.requires c.in_ok-put_elem.ensures.of c.in_ok-put_elem.ensures.set c.in_ok-note.ensures.told
