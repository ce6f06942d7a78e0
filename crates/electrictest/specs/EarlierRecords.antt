-- What an impact says of tests that it doesn't name, by the record of the suite's earlier state (this project's).
use Rattle.std.specs.Prelude.{◌≡◌, ℕ, List, Bool, true, Option, Some, option_map, Ok, IsSome}
use Rattle.sha2.specs.Sha256.{sha256}
use Rattle.jvm_model.specs.{Suite.seq, Suite.is_detected, Texts.outcome_lines}
use Rattle.order_law.specs.{Conflicts.Member, Histories.IsTestNumber}
use Rattle.class_pool.specs.Grammar.{IsBytes}
use Rattle.outside.specs.{Depot.Files, Depot.content, Sink.SinkView}
use Rattle.suite_load.specs.{declared.loaded.Loaded.Loaded, Loading.bytes_of}
use Rattle.impact_pick.specs.ImpactText.{text_on}
use Rattle.electrictest.specs.{declared.status.Status.Status, Commands.Asked, Commands.Whole, Detections.IsFound, Detections.recorded, Loads.LoadsFor}
use Rattle.electrictest.specs.declared.words.Command.TheVariants as command
use Rattle.electrictest.specs.{OwnRecords.OwnEndsBy, Words.Ask, Words.word_at}

-- each file is one of bytes
abbrev pub HoldBytes : Files → Type 0
HoldBytes files = (name : List ℕ) → IsBytes (bytes_of files name)

-- files of one name that have one sum are equal
abbrev pub SumsTell : Files → Files → Type 0
SumsTell before now = (name : List ℕ) → sha256 (bytes_of before name) ≡ sha256 (bytes_of now name) → bytes_of before name ≡ bytes_of now name

-- The words ask for the impact on a suite, and the record that they name is a text that `detect` writes of the suite of other
-- files, whose suite text is the same.
pub record AsksEarlier (before now : Files) (a : Ask) (was l : Loaded) : Type 0 where
  pub asks : a.command ≡ Ok command.Impact
  pub load_before : LoadsFor before a (Ok was)
  pub load : LoadsFor now a (Ok l)
  pub same_text : content before (word_at a.words 1) ≡ content now (word_at a.words 1)
  pub text : List ℕ
  pub passed : Bool
  pub units : ℕ
  pub found : IsFound was recorded passed text units
  pub holds : content now (word_at a.words 2) ≡ Some text
  pub bytes_before : HoldBytes before
  pub bytes_now : HoldBytes now
  pub sums_tell : SumsTell before now

-- the report lines of a test when the whole suite is run in order on one heap
abbrev pub lines_in : Loaded → ℕ → Option (List ℕ)
lines_in l t = option_map (outcome_lines l.names t) (seq l.checked t)

-- a test has in a suite's run the report lines that it had
abbrev pub KeptLines : Loaded → Loaded → ℕ → Type 0
KeptLines was l t = IsSome (lines_in was t) × (lines_in l t ≡ lines_in was t)

-- The text on these class files and tests was written. Where the suite's own run ends within its limits now too, each test that
-- isn't named has in it the report lines that it had in the run that the record is of.
pub record WroteImpact (was l : Loaded) (passed : Bool) (old new : SinkView) : Type 0 where
  pub ends : passed ≡ true
  pub files : List ℕ
  pub tests : List ℕ
  pub whole : Whole (text_on l.names files tests) old new
  pub same : is_detected l.checked ≡ true → (t : ℕ) → IsTestNumber l.checked t → (Member t tests → ⊥) → KeptLines was l t

-- For every suite and each earlier state of it: no refusal of the words or the input.
abbrev pub EarlierAnswer : Asked → Status → SinkView → SinkView → Type 0
EarlierAnswer asked s old new =
    (before : Files) (was l : Loaded) → AsksEarlier before asked.files asked.ask was l → OwnEndsBy (WroteImpact was l) s old new
