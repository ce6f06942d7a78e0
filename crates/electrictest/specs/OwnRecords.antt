-- Commands with the record of the suite's own run (this project's).
use Rattle.std.specs.Prelude.{◌≡◌, ℕ, List, Bool, true, false, Some, Ok}
use Rattle.jvm_model.specs.Suite.{is_detected}
use Rattle.order_law.specs.{declared.records.Record.Record, Reach.IsRecordOf}
use Rattle.outside.specs.{Depot.Files, Depot.content, Sink.SinkView}
use Rattle.dep_record.specs.{RecordReading.said_in, RecordText.said, RecordText.record_text}
use Rattle.suite_load.specs.declared.loaded.Loaded.{Loaded}
use Rattle.electrictest.specs.{declared.status.Status.Status, Loads.LoadsFor, Records.record_bytes, Words.Ask, Words.word_at}
use Rattle.electrictest.specs.declared.status.Status.TheVariants as ends

-- how the file of this name holds a record: its bytes say what the record says, in whichever version; or they are the record's
-- text, which `detect` writes in version 2
pub record HoldsSaying (files : Files) (name : List ℕ) (r : Record) : Type 0 where
  pub bytes : List ℕ
  pub held : record_bytes files name ≡ Ok bytes
  pub says : said_in bytes ≡ Ok (said r)

abbrev pub HoldsText : Files → List ℕ → Record → Type 0
HoldsText files name r = content files name ≡ Some (record_text r)

-- The suite's own run is within its limits, and the file that the words name holds the record of that run, in whichever version.
pub record AsksOwnRecord (Holds : Files → List ℕ → Record → Type 0) (files : Files) (a : Ask) (l : Loaded) : Type 0 where
  pub load : LoadsFor files a (Ok l)
  pub detected : is_detected l.checked ≡ true
  pub kept : Record
  pub own : IsRecordOf l.checked l.prints kept
  pub holds : Holds files (word_at a.words 2) kept

-- What such words are answered, by what was written: no refusal of the words or the input, and no number of units that is
-- passed.
abbrev pub OwnEndsBy : (Bool → SinkView → SinkView → Type 0) → Status → SinkView → SinkView → Type 0
OwnEndsBy Wrote ends.Done old new = Wrote true old new
OwnEndsBy Wrote ends.NotPassed old new = Wrote false old new
OwnEndsBy Wrote ends.NoMemory old new = new ≡ old
OwnEndsBy Wrote ends.Sink old new = Unit {0}
OwnEndsBy Wrote (ends.Depot name) old new = Unit {0}
OwnEndsBy Wrote ends.Words old new = ⊥
OwnEndsBy Wrote (ends.Input f) old new = ⊥
OwnEndsBy Wrote (ends.Over f) old new = ⊥
