-- Cones and the manifest with the suite's own record (this project's).
use Rattle.std.specs.Prelude.{◌≡◌, ◌⊎◌, ℕ, ◌+◌, List, [], map, Bool, Some, Ok}
use Rattle.jvm_model.specs.{declared.outcome.Outcome.Outcome, declared.program.Program.Program, Suite.last_outcome, Suite.seq}
use Rattle.order_law.specs.{declared.edges.Edge.Edge, declared.records.Record.Record, Conflicts.Member, OwnRecord.edges_of}
use Rattle.cone_run.specs.{declared.marks.Mark.Mark, Cones.IsCone, ConesText.outcomes, Marks.IsEffect, Marks.without}
use Rattle.outside.specs.{Depot.Files, Sink.SinkView}
use Rattle.suite_load.specs.declared.loaded.Loaded.{Loaded}
use Rattle.electrictest.specs.declared.{status.Status.Status, words.Command.Command}
use Rattle.electrictest.specs.declared.words.Command.TheVariants as command
use Rattle.electrictest.specs.{Commands.Asked, Commands.Whole, ConeRuns.IsConeReport, Loads.named_by, Manifests.IsManifest, Records.Beginning, Words.Ask}
use Rattle.electrictest.specs.OwnRecords.{AsksOwnRecord, HoldsSaying, HoldsText, OwnEndsBy}

-- Each selected test has at the end of its cone the outcome that it has when the whole suite is run in order on one heap:
-- verdict, output and units.
pub record IsOwnConeReport (l : Loaded) (b : Beginning) (passed : Bool) (text : List ℕ) (units : ℕ) : Type 0 where
  pub report : IsConeReport l b passed text units
  pub own : map (λ t. seq l.checked t) report.selected ≡ map (λ o. Some o) (outcomes report.pieces)

-- what a mark compares with is the outcome of its test in the suite's order
pub record IsOwnMark (p : Program) (R : List Edge) (m : Mark) : Type 0 where
  pub list : List ℕ
  pub cone : IsCone R m.test list
  pub outcome : Outcome
  pub own : seq p m.test ≡ Some outcome
  pub effect : IsEffect outcome (last_outcome p (without m.writer list)) m.effect

pub record IsOwnManifest (l : Loaded) (b : Beginning) (passed : Bool) (text : List ℕ) (units : ℕ) : Type 0 where
  pub report : IsManifest l b passed text units
  pub own : (m : Mark) → Member m report.marks → IsOwnMark l.checked b.said.edges m

-- ---- by what is asked

-- how the file of this name holds a record: in whichever version, or as `detect` writes it
abbrev pub HoldsRecord : Files → List ℕ → Record → Type 0
HoldsRecord files name r = HoldsSaying files name r ⊎ HoldsText files name r

-- the words ask for this of these tests, by the suite's own record
pub record AsksOwn (c : Command) (files : Files) (a : Ask) (l : Loaded) (tests : List ℕ) : Type 0 where
  pub asks : a.command ≡ Ok c
  pub named : named_by (Ok c) a.words l ≡ Some (Ok tests)
  pub by : AsksOwnRecord HoldsRecord files a l

-- The report on these tests, by the edges of the suite's own run, was written, and the steps rose by exactly its units.
pub record WroteBy (IsReport : Beginning → Bool → List ℕ → ℕ → Type 0) (asked : Asked) (l : Loaded) (tests : List ℕ) (passed : Bool) (old new : SinkView) : Type 0 where
  pub beginning : Beginning
  pub tests_are : beginning.tests ≡ tests
  pub edges_are : beginning.said.edges ≡ edges_of l.checked
  pub text : List ℕ
  pub units : ℕ
  pub report : IsReport beginning passed text units
  pub whole : Whole text old new
  pub steps : asked.now ≡ asked.begun + units

-- For every suite, selection and number of workers, in whatever order they take cones.
abbrev pub OwnConesAnswer : Asked → Status → SinkView → SinkView → Type 0
OwnConesAnswer asked s old new =
    (workers : ℕ) (l : Loaded) (tests : List ℕ) → AsksOwn (command.Cones workers) asked.files asked.ask l tests → OwnEndsBy (WroteBy (IsOwnConeReport l) asked l tests) s old new

abbrev pub OwnManifestAnswer : Asked → Status → SinkView → SinkView → Type 0
OwnManifestAnswer asked s old new = (l : Loaded) → AsksOwn command.Manifest asked.files asked.ask l [] → OwnEndsBy (WroteBy (IsOwnManifest l) asked l []) s old new
