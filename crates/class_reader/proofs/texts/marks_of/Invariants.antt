use Rattle.std.proofs.Common.{◌≡◌, ℕ, List, map, take}
use Rattle.class_reader.specs.{Lookups.noted, Texts.first_from, Texts.mark_of}
use Rattle.class_reader.proofs.texts.marks_of.Given as goal

abbrev pub invariant-loop-i : goal.invariant-loop-i
invariant-loop-i l =
    ((q : List ℕ) → noted l.texts q ≡ first_from 0 (take l.i l.slots) q)
    × (l.marks.items ≡ map (mark_of l.slots) (take l.i l.slots))
