-- What loading a suite gives, or the first fault: the suite text, the class files in order, linking, tests, the check (this
-- project's order).
use Rattle.std.specs.Prelude.{◌≡◌, ◌⊎◌, IsOk, ℕ, ◌+◌, ◌-◌, List, [], ◌∷◌, ◌++◌, length, map, get_or, min, nat_le, unwrap_or, Option, Some, None, Result, Ok, Err, if◌then◌else◌}
pub use Rattle.et_base.specs.Answers.{◌>>=◌}
use Rattle.et_base.specs.Quotes.{name_of}
use Rattle.outside.specs.Depot.{Files, content}
use Rattle.class_reader.specs.{declared.parts.ClassParts.ClassParts, declared.fault.ClassFault.ClassFault, Faults.class_of}
use Rattle.class_reader.specs.declared.fault.ClassFault.TheVariants as class
use Rattle.jvm_model.specs.declared.program.{Program.Program, Names.Names}
use Rattle.order_law.specs.declared.records.Prints.{Prints}
use Rattle.dep_record.specs.Hashes.{prints_of}
use Rattle.class_link.specs.{declared.fault.LinkFault.LinkFault, declared.lines.TestLines.TestLines, Link.LinksBy}
use Rattle.class_link.specs.declared.fault.LinkFault.TheVariants as linking
use Rattle.class_link.specs.declared.lines.TestLine as line
use Rattle.type_frames.specs.{declared.fault.CheckFault.CheckFault, Typing.check_fault}
use Rattle.suite_load.specs.declared.suite_text.{SuiteText.SuiteText, TestLine.TestLine, SuiteRefusal.SuiteRefusal}
use Rattle.suite_load.specs.declared.suite_text.SuiteRefusal.TheVariants as refusals
use Rattle.suite_load.specs.declared.suite_text.Why.TheVariants as why
use Rattle.suite_load.specs.{declared.load_fault.LoadFault.LoadFault, declared.loaded.Loaded.Loaded, SuiteForm.suite_of}
use Rattle.suite_load.specs.declared.load_fault.LoadFault.TheVariants as fault

-- ---- files

-- the most bytes of a suite text and of a class file, and of all class files: 1 MiB and 64 MiB
abbrev pub file_limit : ℕ
file_limit = 1048576

abbrev pub all_limit : ℕ
all_limit = 67108864

-- the bytes of a file that is there
abbrev pub within : ℕ → List ℕ → Option (List ℕ) → Result (List ℕ) LoadFault
within most name None = Err (fault.Absent name)
within most name (Some bytes) = if nat_le (length bytes) most then Ok bytes else Err (fault.TooLarge name)

-- a file's bytes, of which there may be so many
unfoldable pub file_of : Files → ℕ → List ℕ → Result (List ℕ) LoadFault
file_of files most name = within most name (content files name)

-- ---- the suite text and the class files

-- what a suite text says; its first faulty line is named
abbrev pub suite_answer : Result SuiteText SuiteRefusal → Result SuiteText LoadFault
suite_answer (Ok suite) = Ok suite
suite_answer (Err (refusals.Suite line why)) = Err (fault.Suite line why)
suite_answer (Err refusals.NoMemory) = Err fault.NoMemory

unfoldable pub suite_in : Files → List ℕ → Result SuiteText LoadFault
suite_in files name = file_of files file_limit name >>= λ bytes. suite_answer (suite_of bytes)

-- how a fault of a class file is answered
abbrev pub class_fault : List ℕ → ClassFault → LoadFault
class_fault name class.NoMemory = fault.NoMemory
class_fault name f = fault.Class name f

abbrev pub class_answer : List ℕ → Result ClassParts ClassFault → Result ClassParts LoadFault
class_answer name (Ok c) = Ok c
class_answer name (Err f) = Err (class_fault name f)

-- how many bytes the next class file may have, where those before it have so many
abbrev pub room_after : ℕ → ℕ
room_after read = min file_limit (all_limit - read)

-- a class file, and the bytes so far with its own
unfoldable pub class_in : Files → ℕ → List ℕ → Result (ClassParts × ℕ) LoadFault
class_in files read name = do
  bytes ← file_of files (room_after read) name
  c ← class_answer name (class_of bytes)
  Ok (c, read + length bytes)

-- the class files of these names, where so many bytes were read before them
unfoldable pub classes_in : Files → ℕ → List (List ℕ) → Result (List ClassParts) LoadFault
classes_in files read [] = Ok []
classes_in files read (name ∷ names) = do
  x ← class_in files read name
  classes ← classes_in files x.1 names
  Ok (x.0 ∷ classes)

-- the bytes of a file, none where there is no such file
abbrev pub bytes_of : Files → List ℕ → List ℕ
bytes_of files name = unwrap_or (content files name) []

-- the sums of the suite of this name, whose text says this
abbrev pub sums_in : Files → List ℕ → SuiteText → Prints
sums_in files name suite = prints_of (bytes_of files name) (map (bytes_of files) suite.classes)

-- the suite text and its class files
unfoldable pub read_in : Files → List ℕ → Result (SuiteText × List ClassParts) LoadFault
read_in files name = do
  suite ← suite_in files name
  classes ← classes_in files 0 suite.classes
  Ok (suite, classes)

-- ---- linking and the check

abbrev pub line_of : TestLine → line.TestLine
line_of x = record { class = x.class; method = x.method; clock = x.clock; seed = x.seed }

-- what a suite text says beside its class lines
abbrev pub lines_of : SuiteText → TestLines
lines_of suite = record { budget = suite.budget; tests = map line_of suite.tests; files = map (λ f. (f.name, f.content)) suite.files }

-- the number of the line of a test
abbrev pub line_number : SuiteText → ℕ → ℕ
line_number suite t = get_or (map (λ x. x.line) suite.tests) (t - 1) 0

-- how a fault of linking is answered; a line that names no test is faulty
abbrev pub link_fault : SuiteText → LinkFault → LoadFault
link_fault suite (linking.NotATest t) = fault.Suite (line_number suite t) why.NotATest
link_fault suite linking.NoMemory = fault.NoMemory
link_fault suite f = fault.Link f

abbrev pub link_answer : SuiteText → Result Program LinkFault → Result Program LoadFault
link_answer suite (Ok p) = Ok p
link_answer suite (Err f) = Err (link_fault suite f)

-- a program that is typed, or its first fault
abbrev pub typed_answer : Program → Option CheckFault → Result Program LoadFault
typed_answer p None = Ok p
typed_answer p (Some f) = Err (fault.Check f)

-- the names that reports print: tests as the suite text has them, classes and fields with dots
abbrev pub names_in : SuiteText → Program → Names
names_in suite p = record { tests = map (λ x. x.name) suite.tests; classes = map (λ c. name_of c.name) p.classes; fields = map (λ f. name_of f.name) p.fields }

-- the suite's checked program, its names and its sums
abbrev pub loaded_of : SuiteText → Prints → Program → Loaded
loaded_of suite prints p = record { checked = p; names = names_in suite p; prints = prints }

-- the suite of these sums, where its class files and lines link to this
unfoldable pub checked_of : SuiteText → Prints → Result Program LinkFault → Result Loaded LoadFault
checked_of suite prints linked = do
  p ← link_answer suite linked
  typed ← typed_answer p (check_fault p)
  Ok (loaded_of suite prints typed)

-- ---- loading

-- What is given once the files are read, or not, where each suite text has these sums: linking is a relation, as it looks for
-- the first class that is its own ancestor.
abbrev pub ReadGives : (SuiteText → Prints) → Result (SuiteText × List ClassParts) LoadFault → Result Loaded LoadFault → Type 0
ReadGives sums (Err f) answer = answer ≡ Err f
ReadGives sums (Ok x) answer =
    (cycle : Option ℕ) × (linked : Result Program LinkFault) × LinksBy cycle x.1 (lines_of x.0) linked × (answer ≡ checked_of x.0 (sums x.0) linked)

-- The answer of loading the suite of this name.
abbrev pub Loads : Files → List ℕ → Result Loaded LoadFault → Type 0
Loads files name answer = ReadGives (sums_in files name) (read_in files name) answer

-- Loading has exactly one answer.
abbrev pub LoadsOnce : Type 0
LoadsOnce = (files : Files) (name : List ℕ) → (answer : Result Loaded LoadFault) × Loads files name answer
    × ((other : Result Loaded LoadFault) → Loads files name other → other ≡ answer)

-- a class file that is read where these are asked for: those before it are read without fault
abbrev pub IsReadAmong : Files → List (List ℕ) → List ℕ → Type 0
IsReadAmong files names read = (front : List (List ℕ)) × (back : List (List ℕ)) × (names ≡ front ++ (read ∷ back)) × IsOk (classes_in files 0 front)

-- A file that is read for the suite of a name: its text, or a class file of a suite that is read.
abbrev pub IsRead : Files → List ℕ → List ℕ → Type 0
IsRead files name read = (read ≡ name) ⊎ ((suite : SuiteText) × (suite_in files name ≡ Ok suite) × IsReadAmong files suite.classes read)
