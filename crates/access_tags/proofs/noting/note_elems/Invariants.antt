use Rattle.std.proofs.Common.{◌≡◌, ◌<◌, List, length, take}
use Rattle.jvm_model.specs.declared.values.Location.{Location}
use Rattle.jvm_model.specs.Access.{elems_made}
use Rattle.jvm_model.specs.World.{World, object_at, size}
use Rattle.access_tags.specs.Followed.{HaveNoted, HaveSameRoom, IsNumbered, numbering_in}
use Rattle.access_tags.proofs.noting.note_elems.Given as goal

abbrev pub invariant-loop-index : goal.invariant-loop-index
invariant-loop-index l = record {
  room : HaveSameRoom l.initial.tags l.tags;
  told : (w : World) (names : List Location) → IsNumbered w l.numbers → l.object < size w → length (object_at w l.object).elems ≡ l.elems
      → HaveNoted (numbering_in w names) l.initial.tags l.tags (elems_made l.object 0 (take l.index (object_at w l.object).elems));
}
