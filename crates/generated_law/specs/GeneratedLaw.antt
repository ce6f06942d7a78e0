-- The laws of generated suites (this project's).
use Rattle.std.specs.Prelude.{◌≡◌, ◌≤◌, ℕ, [], ◌∷◌, None, Ok}
use Rattle.class_reader.specs.Faults.{class_of}
use Rattle.class_write.specs.Spelling.{class_spelling}
use Rattle.suite_gen.specs.Generated.{suite_text, generated_class}
use Rattle.class_link.specs.Link.{LinksBy}
use Rattle.suite_load.specs.{SuiteForm.suite_of, Loading.lines_of, Loading.read_in, Loading.Loads}
use Rattle.type_frames.specs.Typing.{check_fault}
use Rattle.generated_law.specs.GeneratedSuite.{suite_name, suite_files, said_suite, generated_program, generated_suite}

-- The text of each generated suite is read as what it says.
abbrev pub TextLaw : Type 0
TextLaw = (k : ℕ) → k ≤ 1024 → suite_of (suite_text k) ≡ Ok (said_suite k)

-- The bytes of each generated class are read as its parts.
abbrev pub ClassLaw : Type 0
ClassLaw = (k : ℕ) → k ≤ 1024 → class_of (class_spelling (generated_class k)) ≡ Ok (generated_class k)

-- The files of each generated suite are read: its text as what it says, and its class file as the generated class.
abbrev pub ReadLaw : Type 0
ReadLaw = (k : ℕ) → k ≤ 1024 → read_in (suite_files k) suite_name ≡ Ok (said_suite k, generated_class k ∷ [])

-- They link to the generated program, in which no class is its own ancestor.
abbrev pub LinkLaw : Type 0
LinkLaw = (k : ℕ) → k ≤ 1024 → LinksBy None (generated_class k ∷ []) (lines_of (said_suite k)) (Ok (generated_program k))

-- The generated program is typed.
abbrev pub TypedLaw : Type 0
TypedLaw = (k : ℕ) → check_fault (generated_program k) ≡ None

-- Each generated suite loads, as the generated program with its names and sums.
abbrev pub LoadLaw : Type 0
LoadLaw = (k : ℕ) → k ≤ 1024 → Loads (suite_files k) suite_name (Ok (generated_suite k))
