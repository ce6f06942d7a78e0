use Rattle.std.proofs.Common.{◌≡◌, ◌+◌, drop}
use Rattle.class_reader.specs.Texts.{first_from}
use Rattle.class_write.proofs.names.index_of.Given as goal

-- it isn't among the slots before i
abbrev pub invariant-loop-i : goal.invariant-loop-i
invariant-loop-i l = first_from (l.i + 1) (drop l.i l.slots) l.text ≡ first_from 1 l.slots l.text
