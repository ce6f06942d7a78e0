-- What the top call promises: its status, the bytes on the sink and the steps (this project's).
use Rattle.std.specs.Prelude.{◌≡◌, ◌≢◌, ◌⊎◌, ℕ, ◌+◌, ◌-◌, ◌^◌, ◌≤◌, List, length, Bool, true, false, Result, Ok, IfOk, IfErr}
use Rattle.outside.specs.{Counts.Rose, Sink.SinkView, Sink.TookPrefix, Sink.appended, Sink.HasRoom}
use Rattle.outside.specs.Depot.{Files, DepotView, FailedAt, OfHeld, TellsOn}
use Rattle.class_reader.specs.declared.fault.ClassFault.TheVariants as class
use Rattle.class_link.specs.declared.fault.LinkFault.TheVariants as linking
use Rattle.type_frames.specs.declared.fault.CheckFault.TheVariants as checking
use Rattle.suite_load.specs.declared.loaded.Loaded.{Loaded}
use Rattle.electrictest.specs.{declared.reports.Report.Report, declared.status.InputFault.InputFault, declared.status.Status.Status, Begun.AreCounted, Loads.LoadsFor, Words.Ask, Words.unformed}
use Rattle.electrictest.specs.declared.status.InputFault.TheVariants as input
use Rattle.electrictest.specs.declared.status.Status.TheVariants as ends
use Rattle.electrictest.specs.Causes.{AsksSuch, MayRefuse, MayReport, IsOfName, IsOfRecord, reads_files, runs_tests}
use Rattle.electrictest.specs.Replies.{fault_line, Reports, Unreported, IsAnswer}

-- want of memory is answered by itself alone, and a test line that names no test by its line
abbrev pub IsProperInput : InputFault → Type 0
IsProperInput (input.Class name f) = f ≢ class.NoMemory
IsProperInput (input.Link f) = (f ≢ linking.NoMemory) × ((t : ℕ) → f ≢ linking.NotATest t)
IsProperInput (input.Check f) = f ≢ checking.NoMemory
IsProperInput _ = Unit {0}

-- a refusal at the record of this name: an input fault, a depot that failed there, or want of memory
abbrev pub Fails : List ℕ → DepotView → DepotView → Status → Type 0
Fails name old new (ends.Input f) = IsOfRecord f
Fails name old new (ends.Depot read) = (read ≡ name) × FailedAt old new read
Fails name old new ends.NoMemory = Unit {0}
Fails name old new _ = ⊥

-- a refusal of a name of a test, or of a record
abbrev pub IsNameRefusal : Status → Type 0
IsNameRefusal (ends.Input f) = IsOfName f
IsNameRefusal ends.NoMemory = Unit {0}
IsNameRefusal _ = ⊥

abbrev pub IsRecordRefusal : Status → Type 0
IsRecordRefusal (ends.Input f) = IsOfRecord f
IsRecordRefusal ends.NoMemory = Unit {0}
IsRecordRefusal _ = ⊥

-- Why there is no report, whatever the depot tells: exactly words in no form are answered `Words`, unless memory ran out, and
-- so are those that lack their record by `NeedsRecord`; other faults of the input come for the commands that may meet them, and
-- a number of units that is passed for those that run tests of a depot. A depot is named by the file of its last failed read.
abbrev pub ReportEnds : Ask → Status → DepotView → DepotView → Type 0
ReportEnds a ends.Words old new = a.command ≡ unformed
ReportEnds a (ends.Input f) old new = MayRefuse a.command f × IsProperInput f
ReportEnds a (ends.Depot name) old new = AsksSuch reads_files a.command × FailedAt old new name
ReportEnds a (ends.Over f) old new = AsksSuch runs_tests a.command
ReportEnds a ends.NoMemory old new = Unit {0}
ReportEnds a ends.Done old new = ⊥
ReportEnds a ends.NotPassed old new = ⊥
ReportEnds a ends.Sink old new = ⊥

-- how a command ends that writes a report: each test passed, or one didn't
abbrev pub report_status : Bool → Status
report_status true = ends.Done
report_status false = ends.NotPassed

-- the steps of a report rise by the units of its tests
abbrev pub Reported : Files → Ask → Bool → List ℕ → ℕ → ℕ → Type 0
Reported files a passed text begun now = AreCounted (Reports files a passed text) begun now

-- What is answered, of whichever files the depot may hold of which this holds: a text, or why there is none.
pub record Answers (Holds : Files → Type 0) (a : Ask) (old new : DepotView) (begun now : ℕ) (result : Result Report Status) : Type 0 where
  pub told : TellsOn old.told new.told
  pub faults : old.faults ≤ new.faults
  pub reports : IfOk result (λ r. OfHeld new.told (λ files. Holds files → Reported files a r.passed r.text begun now))
  pub refused : IfErr result (λ s. OfHeld new.told (λ files. Holds files → Unreported files a s))
  pub form : IfOk result (λ r. MayReport a.command r.passed)
  pub ends : IfErr result (λ s. ReportEnds a s old new)

-- by a command over a loaded suite, where the files have this suite; and by any command, whatever the files
abbrev pub AnswersOver : Loaded → Ask → DepotView → DepotView → ℕ → ℕ → Result Report Status → Type 0
AnswersOver l a = Answers (λ files. LoadsFor files a (Ok l)) a

abbrev pub AnswersAny : Ask → DepotView → DepotView → ℕ → ℕ → Result Report Status → Type 0
AnswersAny a = Answers (λ files. Unit {0}) a

-- the text was taken; where a told room holds it, the count of faults stood still
pub record Whole (text : List ℕ) (old new : SinkView) : Type 0 where
  pub taken : new.told ≡ appended old.told text
  pub kept : HasRoom old.room (length text) → new.faults ≡ old.faults

-- a part of the text was taken, and the count of faults rose: no told room holds the text, or the count had ended
pub record Cut (text : List ℕ) (old new : SinkView) : Type 0 where
  pub part : TookPrefix old new text
  pub rose : Rose old.faults new.faults
  pub kept : HasRoom old.room (length text) → (new.faults ≡ old.faults) × (2 ^ 64 - 1 ≤ old.faults)

-- the text was written and the status stands, or the sink failed
abbrev pub Writes : List ℕ → Status → Status → SinkView → SinkView → Type 0
Writes text status result old new = ((result ≡ status) × Whole text old new) ⊎ ((result ≡ ends.Sink) × Cut text old new)

-- the line of a refusal was written or the sink failed at it, or memory was refused and nothing was written
abbrev pub Refused : Status → Status → SinkView → SinkView → Type 0
Refused status result old new =
    ((status ≢ ends.NoMemory) × Writes (fault_line status) status result old new) ⊎ ((result ≡ ends.NoMemory) × (new ≡ old))

-- What the sink took by each status, whatever the depot tells: nothing where memory was refused, the fault line of a
-- refusal, and a part of a text where the sink failed.
abbrev pub Taken : Status → SinkView → SinkView → Type 0
Taken ends.NoMemory old new = new ≡ old
Taken ends.Sink old new = (text : List ℕ) × Cut text old new
Taken ends.Done old new = (text : List ℕ) × Whole text old new
Taken ends.NotPassed old new = (text : List ℕ) × Whole text old new
Taken s old new = Whole (fault_line s) old new

-- the steps rose by these units, where a report was written
abbrev pub Counted : Status → ℕ → ℕ → ℕ → Type 0
Counted ends.Done units begun now = now ≡ begun + units
Counted ends.NotPassed units begun now = now ≡ begun + units
Counted _ units begun now = Unit {0}

-- a failing depot is answered by the file of its last read that failed
abbrev pub DepotFailed : Status → DepotView → DepotView → Type 0
DepotFailed (ends.Depot name) old new = FailedAt old new name
DepotFailed _ old new = Unit {0}

-- A call: what it was asked for and the depot's files; the depot before and after, and the counts of steps.
pub record Asked : Type 0 where
  pub files : Files
  pub ask : Ask
  pub depot : DepotView
  pub depot_now : DepotView
  pub begun : ℕ
  pub now : ℕ

-- such a call for these words, by what there was before and after, over each depot's files
abbrev pub called : Ask → DepotView → DepotView → ℕ → ℕ → Files → Asked
called a depot depot_now begun now files = record { files = files; ask = a; depot = depot; depot_now = depot_now; begun = begun; now = now }

-- a text that answers what is asked
pub record Answering (asked : Asked) (s : Status) : Type 0 where
  pub text : List ℕ
  pub units : ℕ
  pub answers : IsAnswer asked.files asked.ask s text units
  pub counted : Counted s units asked.begun asked.now
  pub failed : DepotFailed s asked.depot asked.depot_now

-- it was written as a whole
pub record Replied (asked : Asked) (s : Status) (old new : SinkView) : Type 0 where
  pub reply : Answering asked s
  pub whole : Whole reply.text old new

-- a part of it was written
pub record PartReplied (asked : Asked) (old new : SinkView) : Type 0 where
  pub status : Status
  pub reply : Answering asked status
  pub cut : Cut reply.text old new

-- what is on the sink by each status: nothing where memory was refused, a part where the sink failed, and else the answer
abbrev pub Served : Asked → Status → SinkView → SinkView → Type 0
Served asked ends.NoMemory old new = new ≡ old
Served asked ends.Sink old new = PartReplied asked old new
Served asked s old new = Replied asked s old new

-- Whatever the depot tells: a sink is answered only where its count of faults rose, a text only where a command is asked for, a
-- test that didn't pass only where the command tells of it, and each other status as `ReportEnds` says.
abbrev pub Ends : Ask → Status → DepotView → DepotView → SinkView → SinkView → Type 0
Ends a ends.Sink depot depot_now sink sink_now = Rose sink.faults sink_now.faults
Ends a ends.Done depot depot_now sink sink_now = MayReport a.command true
Ends a ends.NotPassed depot depot_now sink sink_now = MayReport a.command false
Ends a s depot depot_now sink sink_now = ReportEnds a s depot depot_now
