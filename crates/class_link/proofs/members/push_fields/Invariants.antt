use Rattle.std.proofs.Common.{◌≡◌, ◌++◌, map, take}
use Rattle.class_link.specs.Assembly.{field_rec}
use Rattle.class_link.proofs.members.push_fields.Given as goal

abbrev pub invariant-loop-part : goal.invariant-loop-part
invariant-loop-part l = l.made ≡ l.initial.made ++ map (field_rec l.texts l.slots l.class) (take l.part-index l.parts)
