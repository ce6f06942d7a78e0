use Rattle.std.proofs.Common.{refl, sym}
use Rattle.jvm_model.specs.Access.{read_of}
use Rattle.jvm_model.specs.declared.values.Location.TheVariants as place
use Rattle.access_tags.specs.declared.conflict.LocationKey.TheVariants as spot
use Rattle.access_tags.proofs.Following.{read_noted}
use Rattle.access_tags.proofs.memory.TaggedMemoryMemory.get_field.Goals as goal

pub returns-clause-told : goal.returns-clause-told
returns-clause-told g c =
    read_noted c.args.self.now c.note.new.self c.get_field.new.self (spot.Field c.args.object c.args.field) _ _ (read_of (place.Field c.args.object c.args.field) c.in_ok-v.v) refl c.requires c.in_ok-v.ensures.of c.in_ok-v.ensures.kept refl refl (sym c.object.ensures) refl c.in_ok-note.ensures.told
