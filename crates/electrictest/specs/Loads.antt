-- What a call reads of a depot's files: the suite, and for some commands a record of it (this project's).
use Rattle.std.specs.Prelude.{◌≡◌, ◌≤◌, ℕ, ◌-◌, length, List, [], Bool, Option, Some, None, option_map, Result, Ok, Err, if◌then◌else◌}
use Rattle.jvm_model.specs.Builtin.{builtin_count}
use Rattle.outside.specs.Depot.{Files}
use Rattle.dep_record.specs.RecordText.{Said}
use Rattle.suite_load.specs.{declared.load_fault.LoadFault.LoadFault, declared.loaded.Loaded.Loaded, Loading.Loads, Loading.IsRead}
use Rattle.suite_load.specs.declared.load_fault.LoadFault.TheVariants as fault
use Rattle.quiet_init.specs.Quiet.{quiet}
use Rattle.electrictest.specs.{declared.status.Status.Status, declared.status.InputFault.InputFault, Causes.AsksAny, Selections.ordered, Selections.selected}
use Rattle.electrictest.specs.declared.status.Status.TheVariants as ends
use Rattle.electrictest.specs.declared.status.InputFault.TheVariants as input
use Rattle.electrictest.specs.declared.words.Command.TheVariants as command
use Rattle.electrictest.specs.Records.{Beginning, begun, record_fits, earlier_fits}
use Rattle.electrictest.specs.Words.{Asking, Ask, is_eager, suite_word, word_at}

-- how a fault of loading is answered
abbrev pub status_of : LoadFault → Status
status_of (fault.Depot name) = ends.Depot name
status_of (fault.Absent name) = ends.Input (input.Absent name)
status_of (fault.TooLarge name) = ends.Input (input.TooLarge name)
status_of (fault.Suite line why) = ends.Input (input.Suite line why)
status_of (fault.Class name f) = ends.Input (input.Class name f)
status_of (fault.Link f) = ends.Input (input.Link f)
status_of (fault.Check f) = ends.Input (input.Check f)
status_of fault.NoMemory = ends.NoMemory

-- how loading is answered
abbrev pub answered : Result Loaded LoadFault → Result Loaded Status
answered (Ok l) = Ok l
answered (Err f) = Err (status_of f)

-- loading the suite of this name answers this
abbrev pub LoadsNamed : Files → List ℕ → Result Loaded Status → Type 0
LoadsNamed files name answer = (loading : Result Loaded LoadFault) × Loads files name loading × (answer ≡ answered loading)

-- The suite without its quiet initialisers; its digest is that of an eager form, so that records of the two kinds differ.
abbrev pub quieted : Loaded → Loaded
quieted l = record l { checked = quiet l.checked; prints = record l.prints { digest = l.prints.eager } }

-- so is a loaded suite where the form is eager
abbrev pub prepared : Bool → Result Loaded Status → Result Loaded Status
prepared eager (Ok l) = Ok (if eager then quieted l else l)
prepared eager (Err s) = Err s

abbrev pub LoadsAny : Files → Bool → Option (Result (List ℕ) Status) → Result Loaded Status → Type 0
LoadsAny files eager None answer = ⊥
LoadsAny files eager (Some (Err s)) answer = answer ≡ Err s
LoadsAny files eager (Some (Ok name)) answer = (plain : Result Loaded Status) × LoadsNamed files name plain × (answer ≡ prepared eager plain)

-- loading for what is asked answers this; of a depot's files nothing is loaded for a generated suite
abbrev pub LoadsFor : Files → Ask → Result Loaded Status → Type 0
LoadsFor files a answer = LoadsAny files (is_eager a.words) (suite_word a) answer

-- a suite that was loaded has a name for each test, and few tests
pub record IsSuite (l : Loaded) : Type 0 where
  pub names : length l.names.tests ≡ length l.checked.tests
  pub few : length l.checked.tests ≤ 1024
  pub sums : length l.prints.classes ≡ length l.checked.classes - builtin_count

-- ---- records

-- the tests that the words name, where they name a record too
abbrev pub named_by : Asking → List (List ℕ) → Loaded → Option (Result (List ℕ) InputFault)
named_by (Ok (command.Run n log)) words l = Some (selected l.names (word_at words 4))
named_by (Ok command.Order) words l = Some (ordered l.names (word_at words 3))
named_by (Ok (command.Plan n)) words l = Some (selected l.names (word_at words 4))
named_by (Ok command.Impact) words l = Some (Ok [])
named_by (Ok (command.Cones n)) words l = Some (selected l.names (word_at words 4))
named_by (Ok command.Manifest) words l = Some (Ok [])
named_by _ words l = None

-- what that record has to be: of an earlier state of the suite, or of the suite
abbrev pub fits_for : Asking → Loaded → Said → Result (Unit {0}) InputFault
fits_for (Ok command.Impact) = earlier_fits
fits_for _ = record_fits

-- what a command begins with besides the suite: those tests, and the record
abbrev pub begun_by : Files → Ask → Loaded → Option (Result Beginning InputFault)
begun_by files a l = option_map (λ named. begun (fits_for a.command) files l named (word_at a.words 2)) (named_by a.command a.words l)

-- such a command of words in form names these tests, and a record of the suite
pub record IsNamed (a : Ask) (l : Loaded) (named : Result (List ℕ) InputFault) : Type 0 where
  pub by : named_by a.command a.words l ≡ Some named
  pub fits : fits_for a.command ≡ record_fits
  pub formed : AsksAny a.command

abbrev pub NamesTests : Ask → Loaded → Type 0
NamesTests a l = (named : Result (List ℕ) InputFault) × IsNamed a l named

-- the suite is loaded, and with it this is begun
pub record Begins (files : Files) (a : Ask) (l : Loaded) (b : Result Beginning InputFault) : Type 0 where
  pub load : LoadsFor files a (Ok l)
  pub begins : begun_by files a l ≡ Some b

-- A file that is read: one of the suite, or the record, once the suite is loaded and its tests are named.
pub data IsReadFor (files : Files) (a : Ask) (read : List ℕ) : Type 0 where
  of_suite : (name : List ℕ) → suite_word a ≡ Some (Ok name) → IsRead files name read → IsReadFor files a read
  of_record : (l : Loaded) (tests : List ℕ) → LoadsFor files a (Ok l) → named_by a.command a.words l ≡ Some (Ok tests) → read ≡ word_at a.words 2 → IsReadFor files a read
