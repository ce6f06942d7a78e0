-- The record that a command is given (this project's).
use Rattle.std.specs.Prelude.{ℕ, ◌==◌, nat_le, List, [], length, not, Option, Some, None, Result, Ok, Err, if◌then◌else◌}
use Rattle.std.specs.Str.{bytes_eq}
pub use Rattle.et_base.specs.Answers.{◌>>=◌}
use Rattle.et_base.specs.Answers as answers
pub use Rattle.et_base.specs.Answers.{nothing}
use Rattle.outside.specs.{declared.depot.DepotRefusal.DepotRefusal, Depot.Files, Depot.content}
use Rattle.outside.specs.declared.depot.DepotRefusal.TheVariants as refused
use Rattle.order_law.specs.declared.records.{More.More, Record.Record}
use Rattle.dep_record.specs.{RecordText.Said, RecordText.said, RecordReading.said_in}
use Rattle.suite_load.specs.declared.loaded.Loaded.{Loaded}
use Rattle.electrictest.specs.declared.{recorded.Request.Request, status.Status.Status, status.InputFault.InputFault}
use Rattle.electrictest.specs.declared.status.Status.TheVariants as ends
use Rattle.electrictest.specs.declared.status.InputFault.TheVariants as input

-- the most bytes of a record: 512 MiB
abbrev pub record_limit : ℕ
record_limit = 536870912

abbrev pub within_limit : List ℕ → Option (List ℕ) → Result (List ℕ) InputFault
within_limit name None = Err (input.Absent name)
within_limit name (Some bytes) = if nat_le (length bytes) record_limit then Ok bytes else Err (input.TooLarge name)

-- the bytes of the record of this name
unfoldable pub record_bytes : Files → List ℕ → Result (List ℕ) InputFault
record_bytes files name = within_limit name (content files name)

-- what they say; the first faulty line is named
abbrev pub said_answer : Result Said ℕ → Result Said InputFault
said_answer (Ok s) = Ok s
said_answer (Err line) = Err (input.Record line)

-- what the record of this name says
unfoldable pub record_at : Files → List ℕ → Result Said InputFault
record_at files name = record_bytes files name >>= λ bytes. said_answer (said_in bytes)

-- the number of classes that version 2 says, at line 5
abbrev pub classes_fit : Loaded → Option More → Result (Unit {0}) InputFault
classes_fit l None = Ok tt
classes_fit l (Some m) = if length m.classes == length l.prints.classes then Ok tt else Err (input.Record 5)

-- a record has the suite's number of tests, at line 3, and of classes
abbrev pub counts_fit : Loaded → Said → Result (Unit {0}) InputFault
counts_fit l s = if not (length s.units == length l.checked.tests) then Err (input.Record 3) else classes_fit l s.more

-- a record is of the suite by its digest, and by those numbers
unfoldable pub record_fits : Loaded → Said → Result (Unit {0}) InputFault
record_fits l s = if not (bytes_eq s.digest l.prints.digest) then Err (input.RecordForeign s.digest l.prints.digest) else counts_fit l s

-- a record is in version 2, and of the suite's text
abbrev pub suite_fits : Loaded → Option More → Result (Unit {0}) InputFault
suite_fits l None = Err input.RecordOld
suite_fits l (Some m) = if not (bytes_eq m.suite l.prints.suite) then Err (input.RecordForeign m.suite l.prints.suite) else Ok tt

-- a record is of an earlier state of the suite: of its text, and of as many tests and classes, whatever the class files are
unfoldable pub earlier_fits : Loaded → Said → Result (Unit {0}) InputFault
earlier_fits l s = do
  _ ← suite_fits l s.more
  counts_fit l s

-- ---- the tests and the record

-- the tests that were named, and what the record says
pub record Beginning : Type 0 where
  pub tests : List ℕ
  pub said : Said

-- What a command with a record begins with, or the first refusal: a name is of no test, the record can't be read, is none, or
-- isn't of the suite as the command asks.
unfoldable pub begun : (Loaded → Said → Result (Unit {0}) InputFault) → Files → Loaded → Result (List ℕ) InputFault → List ℕ → Result Beginning InputFault
begun fits files l named record_name = do
  tests ← named
  s ← record_at files record_name
  _ ← fits l s
  Ok (record { tests = tests; said = s })

-- ---- answers

abbrev pub beginning : Request → Beginning
beginning b = record { tests = b.tests; said = said b.record }

-- where no tests are named
abbrev pub nameless : Record → Beginning
nameless r = record { tests = []; said = said r }

-- the fault that a definition knows of; a failing depot's and want of memory are free
abbrev pub says : Status → Option InputFault
says (ends.Input f) = Some f
says _ = None

-- What a function returned, seen by view, is what a definition gives.
abbrev pub Gives : {X Y : Type 0} → (X → Y) → Result X Status → Result Y InputFault → Type 0
Gives view result given = answers.Gives says view result given

-- how a refusal of the depot at the record of a name is answered
abbrev pub refusal_of : DepotRefusal → List ℕ → Status
refusal_of refused.Absent name = ends.Input (input.Absent name)
refusal_of refused.TooLong name = ends.Input (input.TooLarge name)
refusal_of refused.Failed name = ends.Depot name
refusal_of refused.NoMemory name = ends.NoMemory
