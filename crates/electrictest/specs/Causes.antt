-- What the words alone decide of an answer, whatever a depot tells (this project's).
use Rattle.std.specs.Prelude.{◌≡◌, Bool, true, false, None, Ok, Err}
use Rattle.electrictest.specs.{declared.status.InputFault.InputFault, declared.words.Command.Command, Words.Asking, Words.refusal_of}
use Rattle.electrictest.specs.declared.status.InputFault.TheVariants as input
use Rattle.electrictest.specs.declared.words.Command.TheVariants as command
use Rattle.electrictest.specs.declared.words.WordsFault.TheVariants as fault

-- ---- kinds of commands

-- those that read files of the depot; a record among them; and those whose words name tests too
abbrev pub reads_files : Command → Bool
reads_files (command.Gen k n) = false
reads_files _ = true

abbrev pub reads_record : Command → Bool
reads_record command.Whole = false
reads_record command.Detect = false
reads_record (command.Deps json) = false
reads_record command.Quiet = false
reads_record (command.Gen k n) = false
reads_record _ = true

abbrev pub names_tests : Command → Bool
names_tests command.Impact = false
names_tests command.Manifest = false
names_tests c = reads_record c

-- those that run tests of a depot's suite; and those that are answered by whether each passed
abbrev pub runs_tests : Command → Bool
runs_tests (command.Plan n) = false
runs_tests command.Impact = false
runs_tests command.Quiet = false
runs_tests (command.Gen k n) = false
runs_tests _ = true

abbrev pub tells_verdicts : Command → Bool
tells_verdicts command.Detect = false
tells_verdicts (command.Deps json) = false
tells_verdicts command.Manifest = false
tells_verdicts c = runs_tests c

-- a command of such a kind is asked for
abbrev pub AsksSuch : (Command → Bool) → Asking → Type 0
AsksSuch is_such asking = (c : Command) × (asking ≡ Ok c) × (is_such c ≡ true)

-- a command is asked for
abbrev pub AsksAny : Asking → Type 0
AsksAny asking = refusal_of asking ≡ None

-- ---- what they may be answered

-- by faults of the input: whichever files are read, one may be absent, too large or faulty
abbrev pub MayRefuse : Asking → InputFault → Type 0
MayRefuse asking input.NeedsRecord = asking ≡ Err fault.NeedsRecord
MayRefuse asking (input.NoTest name) = AsksSuch names_tests asking
MayRefuse asking (input.Record line) = AsksSuch reads_record asking
MayRefuse asking input.RecordOld = AsksSuch reads_record asking
MayRefuse asking (input.RecordForeign kept found) = AsksSuch reads_record asking
MayRefuse asking (input.Twice test) = asking ≡ Ok command.Order
MayRefuse asking (input.MissingWriter test writer) = asking ≡ Ok command.Order
MayRefuse asking (input.Inverted first second) = asking ≡ Ok command.Order
MayRefuse asking _ = AsksSuch reads_files asking

-- by a text: that a test didn't pass is told by some commands alone
abbrev pub MayReport : Asking → Bool → Type 0
MayReport asking true = AsksAny asking
MayReport asking false = AsksSuch tells_verdicts asking

-- ---- what parts of a command are refused by

-- faults of a record, and that a name is of no test
abbrev pub IsOfRecord : InputFault → Type 0
IsOfRecord (input.Absent name) = Unit {0}
IsOfRecord (input.TooLarge name) = Unit {0}
IsOfRecord (input.Record line) = Unit {0}
IsOfRecord input.RecordOld = Unit {0}
IsOfRecord (input.RecordForeign kept found) = Unit {0}
IsOfRecord _ = ⊥

abbrev pub IsOfName : InputFault → Type 0
IsOfName (input.NoTest name) = Unit {0}
IsOfName _ = ⊥
