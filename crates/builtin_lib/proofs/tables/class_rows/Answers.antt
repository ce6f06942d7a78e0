use Rattle.std.proofs.Common.{refl}
use Rattle.jvm_model.specs.Library.{builtin_defs}
use Rattle.builtin_lib.proofs.tables.class_rows.Goals as goal

-- the tables stand for the built-in classes, row by row
pub returns : goal.returns
unfolding builtin_defs
returns c = refl
