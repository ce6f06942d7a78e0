use Rattle.std.proofs.Common.{◌≡◌, take, map}
use Rattle.builtin_lib.specs.Rows.{class_of}
use Rattle.builtin_lib.proofs.rows.classes.Given as goal

abbrev pub invariant-loop-row : goal.invariant-loop-row
invariant-loop-row l = l.made.items ≡ map class_of (take l.row-index l.rows)
