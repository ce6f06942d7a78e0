-- Laws on faults that a suite's own run, a record's size, a depot or a sink may be answered by (this project's).
use Rattle.std.specs.Prelude.{◌≡◌, ◌<◌, ◌≤◌, ◌-◌, ◌^◌, ◌↔◌, ℕ, List, length, true, None}
use Rattle.jvm_model.specs.{declared.program.Program.Program, Suite.is_detected, Suite.suite_fault}
use Rattle.order_law.specs.declared.records.Record.{Record}
use Rattle.outside.specs.{Depot.DepotView, Depot.FailedAt, Sink.SinkView, Sink.HasRoom}
use Rattle.dep_record.specs.RecordText.{said, has_hashes, record_text}
use Rattle.electrictest.specs.{Commands.Cut, Records.record_limit}

-- a suite's own run ends within its limits exactly where it has no fault
abbrev pub DetectedExactly : Type 0
DetectedExactly = (p : Program) → (is_detected p ≡ true) ↔ (suite_fault p ≡ None)

-- a depot whose count of faults stood still didn't fail at any file, unless the count had ended
abbrev pub QuietDepots : Type 0
QuietDepots = (old new : DepotView) (name : List ℕ) → new.faults ≡ old.faults → old.faults < 2 ^ 64 - 1 → FailedAt old new name → ⊥

-- a sink with room for a text doesn't cut it, unless its count had ended
abbrev pub QuietSinks : Type 0
QuietSinks = (text : List ℕ) (old new : SinkView) → HasRoom old.room (length text) → old.faults < 2 ^ 64 - 1 → Cut text old new → ⊥

-- no record has a text that is longer than what is read
abbrev pub RecordsFit : Type 0
RecordsFit = (r : Record) → has_hashes (said r) ≡ true → length (record_text r) ≤ record_limit
