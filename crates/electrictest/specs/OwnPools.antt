-- Runs on workers with the suite's own record (this project's).
use Rattle.std.specs.Prelude.{◌≡◌, ℕ, ◌+◌, List, Bool, Ok}
use Rattle.order_law.specs.{declared.records.Record.Record, OwnRecord.edges_of}
use Rattle.outside.specs.{Depot.Files, Sink.SinkView}
use Rattle.suite_load.specs.declared.loaded.Loaded.{Loaded}
use Rattle.electrictest.specs.declared.status.Status.{Status}
use Rattle.electrictest.specs.declared.words.Command.TheVariants as command
use Rattle.electrictest.specs.{Commands.Asked, Commands.Whole, PoolRuns.IsPoolReport, PoolRuns.AreOwn, Records.Beginning, Selections.selected}
use Rattle.electrictest.specs.{OwnRecords.AsksOwnRecord, OwnRecords.HoldsSaying, OwnRecords.HoldsText, OwnRecords.OwnEndsBy, Words.Ask, Words.word_at}

-- the words ask for a run of these tests, by the suite's own record
pub record AsksOwnRun (Holds : Files → List ℕ → Record → Type 0) (files : Files) (a : Ask) (workers : ℕ) (log : Bool) (l : Loaded) (tests : List ℕ) : Type 0 where
  pub asks : a.command ≡ Ok (command.Run workers log)
  pub named : selected l.names (word_at a.words 4) ≡ Ok tests
  pub by : AsksOwnRecord Holds files a l

-- The report on the closure of these tests, by the edges of the suite's own run, was written, with the outcome of each of its
-- tests, once and in suite order, when the whole suite is run in order on one heap; the steps rose by exactly the units of these.
pub record WroteOwn (asked : Asked) (workers : ℕ) (log : Bool) (l : Loaded) (tests : List ℕ) (passed : Bool) (old new : SinkView) : Type 0 where
  pub beginning : Beginning
  pub tests_are : beginning.tests ≡ tests
  pub edges_are : beginning.said.edges ≡ edges_of l.checked
  pub text : List ℕ
  pub units : ℕ
  pub report : IsPoolReport l beginning workers log passed text units
  pub own : AreOwn l report.ran.set report.ran.given
  pub whole : Whole text old new
  pub steps : asked.now ≡ asked.begun + units

abbrev pub OwnRunAnswer : (Files → List ℕ → Record → Type 0) → Asked → Status → SinkView → SinkView → Type 0
OwnRunAnswer Holds asked s old new =
    (workers : ℕ) (log : Bool) (l : Loaded) (tests : List ℕ) → AsksOwnRun Holds asked.files asked.ask workers log l tests → OwnEndsBy (WroteOwn asked workers log l tests) s old new

-- For every suite and selection, with a record that says what the suite's own says, on any number of workers and in whatever
-- order they take chains.
abbrev pub OwnAnswer : Asked → Status → SinkView → SinkView → Type 0
OwnAnswer = OwnRunAnswer HoldsSaying

-- So it is with the text that `detect` writes of the suite, and with version 1 of that.
abbrev pub DetectedAnswer : Asked → Status → SinkView → SinkView → Type 0
DetectedAnswer = OwnRunAnswer HoldsText
