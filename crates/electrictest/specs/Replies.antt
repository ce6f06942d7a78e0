-- What is asked of a depot's files, and what is answered (this project's).
use Rattle.std.specs.Prelude.{◌≡◌, ℕ, List, [], ◌∷◌, ◌++◌, codes, decimal, Bool, true, false, Ok, Err}
use Rattle.hex.specs.Hex.{encode_lower}
use Rattle.et_base.specs.Quotes.{quoted_bytes}
use Rattle.outside.specs.Depot.{Files}
use Rattle.suite_load.specs.declared.loaded.Loaded.{Loaded}
use Rattle.electrictest.specs.declared.status.{Status.Status, InputFault.InputFault, OverFault.OverFault}
use Rattle.electrictest.specs.declared.status.Status.TheVariants as ends
use Rattle.electrictest.specs.declared.status.InputFault.TheVariants as input
use Rattle.electrictest.specs.declared.status.OverFault.TheVariants as over
use Rattle.electrictest.specs.declared.words.Command.TheVariants as command
use Rattle.electrictest.specs.FaultTexts.{why_text, class_text, link_text, check_text}
use Rattle.electrictest.specs.{Words.Asking, Words.Ask, Words.unformed, Loads.LoadsFor, Loads.Begins, Loads.IsReadFor}
use Rattle.electrictest.specs.{Records.Beginning, Wholes.IsReport, Wholes.IsOver, PoolRuns.IsPoolRun, PoolRuns.IsPoolOver, Plans.IsPlanned, Impacts.IsImpacted}
use Rattle.electrictest.specs.{Orders.IsUnlawful, Orders.IsOrdered, Orders.IsOrderedOver, QuietLists.IsQuietList}
use Rattle.electrictest.specs.{ConeRuns.IsConed, ConeRuns.IsConedOver, Manifests.IsManifested, Manifests.IsManifestedOver, Generated.IsSummary}
use Rattle.electrictest.specs.Detections.{IsDetected, recorded, dependences}

-- Why the input is refused: by its loading; by the names in the words, or the record; or by an order that isn't lawful.
pub data IsRefusedInput (files : Files) (a : Ask) (f : InputFault) : Type 0 where
  unloaded : LoadsFor files a (Err (ends.Input f)) → IsRefusedInput files a f
  unbegun : {l : Loaded} → Begins files a l (Err f) → IsRefusedInput files a f
  unlawful : {l : Loaded} {b : Beginning} → a.command ≡ Ok command.Order → Begins files a l (Ok b) → IsUnlawful l b f → IsRefusedInput files a f

-- the text that a command writes, and the units of the tests that it runs
abbrev pub ReportsBy : Asking → Files → Ask → Bool → List ℕ → ℕ → Type 0
ReportsBy (Ok command.Whole) files a passed text units = IsReport files a passed text units
ReportsBy (Ok (command.Run n log)) files a passed text units = IsPoolRun files a n log passed text units
ReportsBy (Ok command.Detect) files a passed text units = IsDetected files a recorded passed text units
ReportsBy (Ok (command.Deps json)) files a passed text units = IsDetected files a (dependences json) passed text units
ReportsBy (Ok command.Order) files a passed text units = IsOrdered files a passed text units
ReportsBy (Ok (command.Plan n)) files a passed text units = IsPlanned files a n passed text units
ReportsBy (Ok command.Impact) files a passed text units = IsImpacted files a passed text units
ReportsBy (Ok (command.Cones n)) files a passed text units = IsConed files a passed text units
ReportsBy (Ok command.Manifest) files a passed text units = IsManifested files a passed text units
ReportsBy (Ok (command.Gen k n)) files a passed text units = IsSummary k n passed text units
ReportsBy (Ok command.Quiet) files a passed text units = IsQuietList files a passed text units
ReportsBy _ files a passed text units = ⊥

abbrev pub Reports : Files → Ask → Bool → List ℕ → ℕ → Type 0
Reports files a passed text units = ReportsBy a.command files a passed text units

-- the number of units that is passed
abbrev pub OversBy : Asking → Files → Ask → OverFault → Type 0
OversBy (Ok command.Whole) files a f = IsOver files a f
OversBy (Ok (command.Run n log)) files a f = IsPoolOver files a f
OversBy (Ok command.Detect) files a f = IsOver files a f
OversBy (Ok (command.Deps json)) files a f = IsOver files a f
OversBy (Ok command.Order) files a f = IsOrderedOver files a f
OversBy (Ok (command.Cones n)) files a f = IsConedOver files a f
OversBy (Ok command.Manifest) files a f = IsManifestedOver files a f
OversBy _ files a f = ⊥

-- Why there is no report; a depot may fail at any file that is read.
abbrev pub Unreported : Files → Ask → Status → Type 0
Unreported files a ends.Words = a.command ≡ unformed
Unreported files a (ends.Input f) = IsRefusedInput files a f
Unreported files a (ends.Depot name) = IsReadFor files a name
Unreported files a (ends.Over f) = OversBy a.command files a f
Unreported files a ends.NoMemory = Unit {0}
Unreported files a ends.Done = ⊥
Unreported files a ends.NotPassed = ⊥
Unreported files a ends.Sink = ⊥

-- ---- fault lines

-- the text after `electric: ` of each refusal
abbrev pub input_text : InputFault → List ℕ
input_text (input.Absent name) = codes "absent " ++ name
input_text (input.TooLarge name) = codes "too-large " ++ name
input_text (input.Suite line why) = codes "suite " ++ (decimal line ++ (32 ∷ why_text why))
input_text (input.Class name f) = codes "class " ++ (name ++ (32 ∷ class_text f))
input_text (input.Link f) = codes "link " ++ link_text f
input_text (input.Check f) = codes "check " ++ check_text f
input_text input.NeedsRecord = codes "needs-record"
input_text (input.NoTest name) = codes "no-test " ++ quoted_bytes name
input_text (input.Record line) = codes "record " ++ decimal line
input_text input.RecordOld = codes "record-old"
input_text (input.RecordForeign kept found) = codes "record-foreign " ++ (encode_lower kept ++ (32 ∷ encode_lower found))
input_text (input.Twice test) = codes "twice " ++ test
input_text (input.MissingWriter test writer) = codes "missing-writer " ++ (test ++ (32 ∷ writer))
input_text (input.Inverted first second) = codes "inverted " ++ (first ++ (32 ∷ second))

abbrev pub over_text : OverFault → List ℕ
over_text (over.OverBudget name budget list) = codes "over-budget " ++ (name ++ (32 ∷ decimal budget))
over_text (over.OverSuite name) = codes "over-suite " ++ name

abbrev pub refusal_text : Status → List ℕ
refusal_text ends.Done = []
refusal_text ends.NotPassed = []
refusal_text ends.Words = codes "words"
refusal_text (ends.Input f) = input_text f
refusal_text ends.NoMemory = []
refusal_text (ends.Depot name) = codes "depot " ++ name
refusal_text ends.Sink = []
refusal_text (ends.Over f) = over_text f

unfoldable pub fault_line : Status → List ℕ
fault_line s = codes "electric: " ++ (refusal_text s ++ (10 ∷ []))

-- this status and text answer what is asked, for so many units
abbrev pub IsAnswer : Files → Ask → Status → List ℕ → ℕ → Type 0
IsAnswer files a ends.Done text units = Reports files a true text units
IsAnswer files a ends.NotPassed text units = Reports files a false text units
IsAnswer files a ends.NoMemory text units = ⊥
IsAnswer files a ends.Sink text units = ⊥
IsAnswer files a s text units = Unreported files a s × (text ≡ fault_line s)
