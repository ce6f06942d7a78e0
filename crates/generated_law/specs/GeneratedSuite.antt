-- The generated suite of k tests as it is read and linked (this project's).
use Rattle.std.specs.Prelude.{ℕ, ◌+◌, ◌-◌, ◌%◌, pos, List, [], ◌∷◌, ◌++◌, map, codes, decimal, false, Some, None, ◌==◌, if◌then◌else◌}
use Rattle.std.specs.List.{range_with_len}
use Rattle.outside.specs.Depot.{Files}
use Rattle.class_write.specs.Spelling.{class_spelling}
use Rattle.jvm_model.specs.declared.values.Value.TheVariants as value
use Rattle.jvm_model.specs.declared.{instr.Instr.Instr, program.TestEntry.TestEntry}
use Rattle.jvm_model.specs.declared.instr.Instr.TheVariants as form
use Rattle.jvm_model.specs.declared.instr.Op.TheVariants as op
use Rattle.jvm_model.specs.declared.program.{Program.Program, ClassRec.ClassRec, FieldRec.FieldRec, MethodRec.MethodRec, Body.Body, Placed.Placed}
use Rattle.jvm_model.specs.Library.{builtin_classes, builtin_fields, builtin_methods}
use Rattle.suite_gen.specs.Generated.{suite_text, group_of, group_count, generated_class}
use Rattle.suite_load.specs.declared.{suite_text.SuiteText.SuiteText, suite_text.TestLine.TestLine, loaded.Loaded.Loaded}
use Rattle.suite_load.specs.Loading.{sums_in, loaded_of}

-- ---- the files

abbrev pub suite_name : List ℕ
suite_name = codes "gen"

abbrev pub class_file : List ℕ
class_file = codes "Gen.class"

-- the suite in a depot of its own
abbrev pub suite_files : ℕ → Files
suite_files k = (suite_name, suite_text k) ∷ (class_file, class_spelling (generated_class k)) ∷ []

-- ---- what the suite text says

-- the names of test i and of its method
abbrev pub test_name : ℕ → List ℕ
test_name i = codes "Gen.t" ++ decimal i

abbrev pub method_name : ℕ → List ℕ
method_name i = codes "t" ++ decimal i

-- Two lines stand before the first test.
abbrev pub said_test : ℕ → TestLine
said_test i = record { line = i + 2; name = test_name i; class = codes "Gen"; method = method_name i; clock = pos 0; seed = 0 }

unfoldable pub said_suite : ℕ → SuiteText
said_suite k = record { budget = 1000000; classes = class_file ∷ []; files = []; tests = map said_test (range_with_len 1 k) }

-- ---- the program: the built-in classes, 2 fields and 102 methods, and behind them the class 32 of k tests

-- the number of a group's field, of a test's method, and of the method print of electric/Env
abbrev pub field_number : ℕ → ℕ
field_number g = 2 + g

abbrev pub method_number : ℕ → ℕ
method_number i = 101 + i

abbrev pub print_number : ℕ
print_number = 45

abbrev pub gen_class : ℕ → ClassRec
gen_class k = record {
  name = codes "Gen";
  version = 52;
  flags = 33;
  superclass = Some 0;
  interfaces = [];
  fields = range_with_len 2 (group_count k);
  methods = range_with_len 102 k;
  initialiser = None;
  mentions = 32 ∷ [];
}

abbrev pub gen_field : ℕ → FieldRec
gen_field g = record { class = 32; name = codes "f" ++ decimal g; descriptor = codes "I"; flags = 9; opening = value.Int (pos 0) }

abbrev pub gen_method : (ℕ → Body) → ℕ → MethodRec
gen_method body i = record { class = 32; name = method_name i; descriptor = codes "()V"; flags = 9; native = None; body = Some (body i) }

-- the program of k tests with such bodies and tests
unfoldable pub gen_program : (ℕ → Body) → ℕ → List TestEntry → Program
gen_program body k tests = record {
  classes = builtin_classes ++ gen_class k ∷ [];
  fields = builtin_fields ++ map gen_field (range_with_len 0 (group_count k));
  methods = builtin_methods ++ map (gen_method body) (range_with_len 1 k);
  literals = [];
  tests = tests;
  files = [];
}

abbrev pub placed : ℕ → Instr → Placed
placed pc form = record { pc = pc; form = form }

abbrev pub body_with : ℕ → ℕ → List Placed → Body
body_with stack length code = record { max_stack = stack; max_locals = 0; length = length; code = code; handlers = []; frames = []; malformed = false }

-- the three bodies of a field and a number
abbrev pub setting_body : ℕ → ℕ → Body
setting_body f i = body_with 1 7 (placed 0 (form.Const (value.Int (pos i))) ∷ placed 3 (form.PutStatic f) ∷ placed 6 (form.Return None) ∷ [])

abbrev pub printing_body : ℕ → Body
printing_body f = body_with 1 7 (placed 0 (form.GetStatic f) ∷ placed 3 (form.InvokeStatic print_number) ∷ placed 6 (form.Return None) ∷ [])

abbrev pub adding_body : ℕ → ℕ → Body
adding_body f i = body_with 2 11 (placed 0 (form.GetStatic f) ∷ placed 3 (form.Const (value.Int (pos i))) ∷ placed 6 (form.Binary op.Add false) ∷ placed 7 (form.PutStatic f)
    ∷ placed 10 (form.Return None) ∷ [])

-- the body of test i, by its place in its group
abbrev pub gen_body : ℕ → Body
gen_body i = if (i - 1) % 4 == 0 then setting_body (field_number (group_of i)) i
    else if (i - 1) % 4 == 2 then adding_body (field_number (group_of i)) i else printing_body (field_number (group_of i))

abbrev pub gen_test : ℕ → TestEntry
gen_test i = record { class = 32; method = method_number i; clock = pos 0; seed = 0; budget = 1000000 }

abbrev pub generated_program : ℕ → Program
generated_program k = gen_program gen_body k (map gen_test (range_with_len 1 k))

-- ---- the suite that is loaded

unfoldable pub generated_suite : ℕ → Loaded
generated_suite k = loaded_of (said_suite k) (sums_in (suite_files k) suite_name (said_suite k)) (generated_program k)
