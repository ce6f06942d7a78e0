-- Parts of small programs that are computed.
use Rattle.std.proofs.Common.{ℕ, List, [], ◌∷◌, ◌++◌, ◌+◌, Option, Some, None, pos, Bool, true, false, map}
use Rattle.std.specs.Prelude.{codes}
use Rattle.jvm_model.specs.declared.values.{Value.Value, Value.TheVariants.Int, Value.TheVariants.Lit, Location.Location}
use Rattle.jvm_model.specs.declared.{instr.Instr.Instr, outcome.Outcome.Outcome}
use Rattle.jvm_model.specs.declared.instr.Instr.TheVariants as form
use Rattle.jvm_model.specs.declared.instr.Sort.TheVariants as sort
use Rattle.jvm_model.specs.declared.outcome.Verdict.TheVariants.{Passed, Failed, Error}
use Rattle.jvm_model.specs.declared.program.{Program.Program, ClassRec.ClassRec, FieldRec.FieldRec, MethodRec.MethodRec, Body.Body, Placed.Placed}
use Rattle.jvm_model.specs.{declared.program.TestEntry.TestEntry, Library.builtin_classes, Library.builtin_fields, Library.builtin_methods, Suite.Given}

-- A program of these classes, fields, methods, string constants and tests after the built-in ones: the first class has
-- the number 32, the first field 2 and the first method 102.
abbrev pub program : List ClassRec → List FieldRec → List MethodRec → List (List ℕ) → List TestEntry → Program
program cs fs ms ls ts = record {
  classes = builtin_classes ++ cs;
  fields = builtin_fields ++ fs;
  methods = builtin_methods ++ ms;
  literals = ls;
  tests = ts;
  files = [];
}

-- a class below Object, without `<clinit>`
abbrev pub class : List ℕ → List ℕ → List ℕ → ClassRec
class name fs ms = record { name = name; version = 52; flags = 0; superclass = Some 0; interfaces = []; fields = fs; methods = ms; initialiser = None; mentions = [] }

-- the instructions with their lengths in bytes
abbrev pub laid : ℕ → List (ℕ × Instr) → List Placed
laid n [] = []
laid n (x ∷ xs) = record { pc = n; form = x.1 } ∷ laid (n + x.0) xs

abbrev pub code_length : List (ℕ × Instr) → ℕ
code_length [] = 0
code_length (x ∷ xs) = x.0 + code_length xs

abbrev pub body : ℕ → ℕ → List (ℕ × Instr) → Body
body stack locals code = record { max_stack = stack; max_locals = locals; length = code_length code; code = laid 0 code; handlers = []; frames = []; malformed = false }

-- a method, static or of an instance
abbrev pub fixed : ℕ → List ℕ → List ℕ → Body → MethodRec
fixed c name descriptor b = record { class = c; name = name; descriptor = descriptor; flags = 8; native = None; body = Some b }

abbrev pub plain : ℕ → List ℕ → List ℕ → Body → MethodRec
plain c name descriptor b = record { class = c; name = name; descriptor = descriptor; flags = 0; native = None; body = Some b }

abbrev pub static : ℕ → List ℕ → List ℕ → Value → FieldRec
static c name descriptor v = record { class = c; name = name; descriptor = descriptor; flags = 8; opening = v }

abbrev pub field : ℕ → List ℕ → List ℕ → Value → FieldRec
field c name descriptor v = record { class = c; name = name; descriptor = descriptor; flags = 0; opening = v }

abbrev pub static_int : ℕ → List ℕ → FieldRec
static_int c name = static c name (codes "I") (Int (pos 0))

abbrev pub test : ℕ → ℕ → TestEntry
test c m = record { class = c; method = m; clock = pos 0; seed = 0; budget = 1000000 }

-- instructions with their lengths
abbrev pub int_const : ℕ → ℕ × Instr
int_const n = (1, form.Const (Int (pos n)))

abbrev pub literal : ℕ → ℕ × Instr
literal n = (2, form.Const (Lit n))

abbrev pub get_static : ℕ → ℕ × Instr
get_static f = (3, form.GetStatic f)

abbrev pub put_static : ℕ → ℕ × Instr
put_static f = (3, form.PutStatic f)

abbrev pub call_static : ℕ → ℕ × Instr
call_static m = (3, form.InvokeStatic m)

abbrev pub returns : ℕ × Instr
returns = (1, form.Return None)

abbrev pub load_this : ℕ × Instr
load_this = (1, form.Load sort.Ref 0)

abbrev pub dup : ℕ × Instr
dup = (1, form.Dup)

-- electric.Env.print
abbrev pub print : ℕ × Instr
print = call_static 45

abbrev pub print_number : List (ℕ × Instr)
print_number = print ∷ returns ∷ []

-- outcomes
abbrev pub passed : List ℕ → ℕ → Outcome
passed output units = record { verdict = Passed; output = output; units = units }

abbrev pub failed : ℕ → Option (List ℕ) → List ℕ → ℕ → Outcome
failed c text output units = record { verdict = Failed (record { class = c; message = text }); output = output; units = units }

abbrev pub error : ℕ → Option (List ℕ) → List ℕ → ℕ → Outcome
error c text output units = record { verdict = Error (record { class = c; message = text }); output = output; units = units }

-- a location that is read, and one that is written
abbrev pub gets : Location → Bool × Location
gets L = (false, L)

abbrev pub sets : Location → Bool × Location
sets L = (true, L)

-- what each test gives, and what it touches, in order
abbrev pub shown : Option (List Given) → Option (List (Outcome × List (Bool × Location)))
shown None = None
shown (Some xs) = Some (map (λ x. (x.outcome, map (λ t. (t.write, t.location)) x.touches)) xs)

abbrev pub line : List ℕ → List ℕ
line us = us ++ (10 ∷ [])
