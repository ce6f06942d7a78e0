use Rattle.std.proofs.Common.{◌≡◌, ◌<◌, List, take}
use Rattle.jvm_model.specs.declared.values.Location.{Location}
use Rattle.jvm_model.specs.{Access.fields_made, View.keys}
use Rattle.jvm_model.specs.World.{World, object_at, size}
use Rattle.access_tags.specs.Followed.{HaveNoted, HaveSameRoom, IsNumbered, numbering_in}
use Rattle.access_tags.proofs.noting.note_fields.Given as goal

abbrev pub invariant-loop-field : goal.invariant-loop-field
invariant-loop-field l = record {
  room : HaveSameRoom l.initial.tags l.tags;
  told : (w : World) (names : List Location) → IsNumbered w l.numbers → l.object < size w → keys (object_at w l.object).fields ≡ keys l.fields
      → HaveNoted (numbering_in w names) l.initial.tags l.tags (fields_made l.object (take l.field-index l.fields));
}
