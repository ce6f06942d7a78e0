use Rattle.std.proofs.Common.{refl}
use Rattle.jvm_model.specs.Access.{read_of}
use Rattle.jvm_model.specs.declared.values.Location.TheVariants as place
use Rattle.access_tags.specs.declared.conflict.LocationKey.TheVariants as spot
use Rattle.access_tags.proofs.Following.{read_noted}
use Rattle.access_tags.proofs.memory.TaggedMemoryMemory.get_init.Goals as goal

pub returns-clause-told : goal.returns-clause-told
returns-clause-told g c =
    read_noted c.args.self.now c.note.new.self c.get_init.new.self (spot.Init c.args.class) _ _ (read_of (place.Init c.args.class) c.in_ok-s.s) refl c.requires c.in_ok-s.ensures.of c.in_ok-s.ensures.kept refl refl refl refl c.in_ok-note.ensures.told
