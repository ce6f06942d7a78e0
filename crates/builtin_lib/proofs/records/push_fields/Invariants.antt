use Rattle.std.proofs.Common.{◌≡◌, ◌++◌, take, map}
use Rattle.jvm_model.specs.Library.{field_rec}
use Rattle.builtin_lib.specs.Rows.{field_of}
use Rattle.builtin_lib.proofs.records.push_fields.Given as goal

abbrev pub invariant-loop-row : goal.invariant-loop-row
invariant-loop-row l = l.made.items ≡ l.initial.made.items ++ map (λ x. field_rec l.class x) (map field_of (take l.row-index l.rows))
