-- When a call gives the text that it is asked for: what is asked is accepted, and nothing failed (this project's).
use Rattle.std.specs.Prelude.{◌≡◌, ◌<◌, ◌≤◌, ◌-◌, ◌^◌, ℕ, List, length, Some, None, Ok, IfSome, IsOk}
use Rattle.order_law.specs.Conflicts.{Lawful}
use Rattle.outside.specs.{Counts.Rose, QuietSink.QuietSinkState, Sink.SinkView, Depot.Files, Depot.DepotView, Depot.all_files}
use Rattle.suite_load.specs.declared.loaded.Loaded.{Loaded}
use Rattle.electrictest.specs.{declared.status.Status.Status, Commands.Asked, Commands.Replied, Commands.Served, Commands.called}
use Rattle.electrictest.specs.declared.status.Status.TheVariants as ends
use Rattle.electrictest.specs.declared.words.Command.TheVariants as command
use Rattle.electrictest.specs.{Loads.LoadsFor, Loads.begun_by, Records.Beginning, Replies.IsAnswer, Words.Ask}

-- The words are in form, and the suite loads. Where the command has a record, each name is that of a test, and the record is in
-- the grammar and fits the suite; an order is lawful by it.
pub record AcceptsSuite (files : Files) (a : Ask) (l : Loaded) : Type 0 where
  pub load : LoadsFor files a (Ok l)
  pub begins : IfSome (begun_by files a l) IsOk
  pub lawful : (b : Beginning) → a.command ≡ Ok command.Order → begun_by files a l ≡ Some (Ok b) → Lawful b.said.edges b.tests

-- What is asked is accepted: a command over a suite of the depot, or over a generated suite.
pub data IsAccepted (files : Files) (a : Ask) : Type 0 where
  of_depot : {l : Loaded} → AcceptsSuite files a l → IsAccepted files a
  of_generated : {k n : ℕ} → a.command ≡ Ok (command.Gen k n) → IsAccepted files a

-- no count of faults rose
pub record NoneFailed (asked : Asked) (old new : SinkView) : Type 0 where
  pub depot : Rose asked.depot.faults asked.depot_now.faults → ⊥
  pub sink : Rose old.faults new.faults → ⊥

-- The text, each test passed or not; a number of units that is passed; or want of memory, and nothing was written.
abbrev pub IsCompleted : Asked → Status → SinkView → SinkView → Type 0
IsCompleted asked ends.Done old new = Replied asked ends.Done old new
IsCompleted asked ends.NotPassed old new = Replied asked ends.NotPassed old new
IsCompleted asked (ends.Over f) old new = Replied asked (ends.Over f) old new
IsCompleted asked ends.NoMemory old new = new ≡ old
IsCompleted asked ends.Words old new = ⊥
IsCompleted asked (ends.Input f) old new = ⊥
IsCompleted asked (ends.Depot name) old new = ⊥
IsCompleted asked ends.Sink old new = ⊥

-- What is accepted is completed, where nothing failed.
abbrev pub Complete : Asked → Status → SinkView → SinkView → Type 0
Complete asked s old new = IsAccepted asked.files asked.ask → NoneFailed asked old new → IsCompleted asked s old new

-- ---- a depot and a sink in memory that can't fail

-- what a `QuietDepot` of these files shows, and a `QuietSink`
abbrev pub quiet_depot : Files → DepotView
quiet_depot files = record { told = all_files files; faults = 0; last_failed = None }

abbrev pub quiet_sink : QuietSinkState → SinkView
quiet_sink s = record { told = Some s.held; room = Some s.room; faults = s.faults }

-- there is room for each text that may be answered
abbrev pub HasRoomFor : Files → Ask → ℕ → Type 0
HasRoomFor files a room = (s : Status) (text : List ℕ) (units : ℕ) → IsAnswer files a s text units → length text ≤ room

-- Over a `QuietDepot`, with a `QuietSink` of room enough, what is accepted is completed.
abbrev pub QuietlyComplete : Type 0
QuietlyComplete = (files : Files) (a : Ask) (begun now : ℕ) (s : Status) (old new : QuietSinkState) → IsAccepted files a → HasRoomFor files a old.room → old.faults < 2 ^ 64 - 1 →
    Served (called a (quiet_depot files) (quiet_depot files) begun now files) s (quiet_sink old) (quiet_sink new) → IsCompleted (called a (quiet_depot files) (quiet_depot files) begun now files) s (quiet_sink old) (quiet_sink new)
