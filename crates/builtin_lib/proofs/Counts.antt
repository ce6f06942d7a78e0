-- How many built-in classes and members there are.
use Rattle.std.proofs.Common.{◌≡◌, [], ◌<◌, List, length, map, ap, refl, arith}
use Rattle.std.proofs.lemmas.List.{length-map}
use Rattle.jvm_model.specs.Library.{builtin_defs}
use Rattle.builtin_lib.specs.{declared.rows.ClassRow.ClassRow, Rows.class_of, Rows.field_count, Rows.method_count}

-- rows that stand for the built-in classes are few, and so are their fields and methods
pub few_classes : (rows : List ClassRow) → map class_of rows ≡ builtin_defs → length rows < 4294967296
unfolding builtin_defs
few_classes rows e = let k : length builtin_defs ≡ 32 = refl in omega (arith, simp length-map at (ap length e))

pub few_fields : (rows : List ClassRow) → map class_of rows ≡ builtin_defs → field_count (map class_of rows) < 4294967296
unfolding builtin_defs
few_fields rows e = let k : field_count builtin_defs ≡ 2 = refl in omega (arith, ap field_count e)

pub few_methods : (rows : List ClassRow) → map class_of rows ≡ builtin_defs → method_count (map class_of rows) < 4294967296
unfolding builtin_defs
few_methods rows e = let k : method_count builtin_defs ≡ 102 = refl in omega (arith, ap method_count e)
