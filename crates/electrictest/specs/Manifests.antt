-- What becomes of each test without one of its raw writers, by a loaded suite and what it begins with (this project's).
use Rattle.std.specs.Prelude.{◌≡◌, ℕ, List, length, Bool, true}
use Rattle.cone_run.specs.{declared.marks.Mark.Mark, ManifestText.manifest_text, Marks.AreMarks, Marks.AreUnits, Marks.HasWriter}
use Rattle.outside.specs.Depot.{Files}
use Rattle.suite_load.specs.declared.loaded.Loaded.{Loaded}
use Rattle.electrictest.specs.{declared.status.OverFault.OverFault, ConeRuns.IsOverCone, Begun.OfBegun, Records.Beginning, Words.Ask}

-- The manifest of the record: the mark of each raw edge, in its order; whatever the marks are, it is done.
pub record IsManifest (l : Loaded) (b : Beginning) (passed : Bool) (text : List ℕ) (units : ℕ) : Type 0 where
  pub marks : List Mark
  pub are : AreMarks l.checked b.said.edges marks
  pub reports : text ≡ manifest_text l.names marks
  pub ends : passed ≡ true
  pub sum : AreUnits l.checked b.said.edges (length l.checked.tests) units

-- ---- by what is asked

abbrev pub IsManifested : Files → Ask → Bool → List ℕ → ℕ → Type 0
IsManifested files a passed text units = OfBegun (λ l b. IsManifest l b passed text units) files a

-- a test that a raw edge leads to gives nothing at the end of its cone
abbrev pub IsManifestedOver : Files → Ask → OverFault → Type 0
IsManifestedOver files a f = OfBegun (λ l b. IsOverCone l b (HasWriter b.said.edges) f) files a
