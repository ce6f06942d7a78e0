-- Orders with the suite's own record (this project's).
use Rattle.std.specs.Prelude.{◌≡◌, ℕ, ◌+◌, List, map, Bool, Some, Ok}
use Rattle.std.specs.List.{list_all}
use Rattle.jvm_model.specs.{declared.outcome.Outcome.Outcome, Suite.seq, Texts.is_passed}
use Rattle.order_law.specs.{declared.records.Record.Record, Conflicts.Lawful, OwnRecord.edges_of}
use Rattle.outside.specs.{Depot.Files, Sink.SinkView}
use Rattle.suite_load.specs.declared.loaded.Loaded.{Loaded}
use Rattle.electrictest.specs.{declared.status.Status.Status, Commands.Asked, Commands.Whole, Orders.order_report, Selections.ordered, TestNames.units_in}
use Rattle.electrictest.specs.declared.words.Command.TheVariants as command
use Rattle.electrictest.specs.{Words.Ask, Words.word_at, OwnRecords.AsksOwnRecord, OwnRecords.HoldsSaying, OwnRecords.HoldsText, OwnRecords.OwnEndsBy}

-- the words ask for an order of these tests, by the suite's own record, and it is lawful by that
pub record AsksOwnOrder (Holds : Files → List ℕ → Record → Type 0) (files : Files) (a : Ask) (l : Loaded) (tests : List ℕ) : Type 0 where
  pub asks : a.command ≡ Ok command.Order
  pub named : ordered l.names (word_at a.words 3) ≡ Ok tests
  pub lawful : Lawful (edges_of l.checked) tests
  pub by : AsksOwnRecord Holds files a l

-- The report on the order was written, with the outcome of each of its tests when the whole suite is run in order on one heap:
-- verdict, output and units; the steps rose by exactly these units.
pub record WroteOrder (asked : Asked) (l : Loaded) (tests : List ℕ) (passed : Bool) (old new : SinkView) : Type 0 where
  pub outcomes : List Outcome
  pub own : map (λ t. seq l.checked t) tests ≡ map (λ o. Some o) outcomes
  pub verdicts : list_all is_passed outcomes ≡ passed
  pub whole : Whole (order_report l.names tests outcomes) old new
  pub steps : asked.now ≡ asked.begun + units_in outcomes

abbrev pub OrderAnswer : (Files → List ℕ → Record → Type 0) → Asked → Status → SinkView → SinkView → Type 0
OrderAnswer Holds asked s old new =
    (l : Loaded) (tests : List ℕ) → AsksOwnOrder Holds asked.files asked.ask l tests → OwnEndsBy (WroteOrder asked l tests) s old new

-- For every suite and lawful order, with a record that says what the suite's own says.
abbrev pub OwnOrderAnswer : Asked → Status → SinkView → SinkView → Type 0
OwnOrderAnswer = OrderAnswer HoldsSaying

-- So it is with the text that `detect` writes of the suite, and with version 1 of that.
abbrev pub DetectedOrderAnswer : Asked → Status → SinkView → SinkView → Type 0
DetectedOrderAnswer = OrderAnswer HoldsText
