use Rattle.std.proofs.Common.{◌≡◌, take, map}
use Rattle.builtin_lib.specs.Rows.{field_of}
use Rattle.builtin_lib.proofs.rows.fields.Given as goal

abbrev pub invariant-loop-row : goal.invariant-loop-row
invariant-loop-row l = l.made.items ≡ map field_of (take l.row-index l.rows)
