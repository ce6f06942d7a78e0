-- What a detection run finds: the record of a program's own run, and what is shown of it.
use Rattle.std.specs.Prelude.{◌≡◌, ℕ, suc, List, length, map, true, IsSome}
use Rattle.jvm_model.specs.declared.program.Program.{Program}
use Rattle.jvm_model.specs.declared.values.Touch.{Touch}
use Rattle.jvm_model.specs.Suite.{all_tests, is_detected, seq}
use Rattle.jvm_model.specs.World.{World}
use Rattle.order_law.specs.declared.records.{Prints.Prints, Record.Record}
use Rattle.order_law.specs.{Conflicts.down, Histories.after_history, Histories.touches_of, Pairing.PairedList, Reach.IsRecordOf, Reach.units_in}
use Rattle.order_law.specs.Walk.{IsShownOf}
use Rattle.dep_graph.specs.declared.detected.Detected.{Detected}
use Rattle.vm_mem.specs.Trace.{Trace}
use Rattle.access_tags.specs.Ran.{trace_to, touched_by}

-- The record of version 2 of a detected program with these prints, and of each of its edges the first locations with their
-- walks.
pub record IsDetection (p : Program) (x : Prints) (d : Detected) : Type 0 where
  pub detected : is_detected p ≡ true
  pub kept : IsRecordOf p x d.kept
  pub newer : IsSome d.kept.more
  pub shown : PairedList (IsShownOf p) d.kept.edges d.shown

-- the record of what a detection run finds
pub record IsDetectedRecord (p : Program) (x : Prints) (r : Record) : Type 0 where
  pub whole : Detected
  pub is : IsDetection p x whole
  pub kept : whole.kept ≡ r

-- the whole suite ran in order on this memory, and its tests took these units
pub record IsOwnRun {M : Type 0} (world : M → World) (follows : M → Trace → List Touch → Type 0) (p : Program) (m : M) (us : List ℕ) : Type 0 where
  pub detected : is_detected p ≡ true
  pub told : follows m (trace_to (touches_of p) (length p.tests)) (touched_by (touches_of p) (length p.tests))
  pub left : world m ≡ after_history p (down (suc (length p.tests)))
  pub units : us ≡ map (λ t. units_in (seq p t)) (all_tests p)
