use Rattle.std.proofs.Common.{◌≡◌, ◌≤◌, ◌+◌, length, drop}
use Rattle.class_link.specs.Literals.{noted, string_in, strings_of}
use Rattle.std.specs.List.{flat_map}
use Rattle.class_link.proofs.literals.note_strings.Given as goal

-- what is noted, and then the texts of the slots that are left, are those of all slots
abbrev pub invariant-loop-slot : goal.invariant-loop-slot
invariant-loop-slot l = record {
  rest : noted l.texts (flat_map (string_in l.slots) (drop l.slot-index l.slots)) ≡ noted l.initial.texts (strings_of l.slots);
  few : length l.texts ≤ length l.initial.texts + l.slot-index;
}
