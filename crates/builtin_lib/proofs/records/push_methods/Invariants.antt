use Rattle.std.proofs.Common.{◌≡◌, ◌++◌, take, map}
use Rattle.jvm_model.specs.Library.{method_rec}
use Rattle.builtin_lib.specs.Rows.{method_of}
use Rattle.builtin_lib.proofs.records.push_methods.Given as goal

abbrev pub invariant-loop-row : goal.invariant-loop-row
invariant-loop-row l = l.made.items ≡ l.initial.made.items ++ map (λ x. method_rec l.class x) (map method_of (take l.row-index l.rows))
