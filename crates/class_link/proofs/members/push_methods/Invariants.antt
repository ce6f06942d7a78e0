use Rattle.std.proofs.Common.{◌≡◌, ◌++◌, map, take}
use Rattle.class_link.specs.Assembly.{method_rec, bare_body}
use Rattle.class_link.proofs.members.push_methods.Given as goal

abbrev pub invariant-loop-part : goal.invariant-loop-part
invariant-loop-part l = l.made ≡ l.initial.made ++ map (method_rec bare_body l.slots l.class) (take l.part-index l.parts)
