-- What is written of a detection run: the record, and the reports on dependences (this project's).
use Rattle.std.specs.Prelude.{◌≡◌, ℕ, List, length, sum, Bool, true, false}
use Rattle.jvm_model.specs.declared.program.Names.{Names}
use Rattle.dep_graph.specs.declared.detected.Detected.{Detected}
use Rattle.dep_record.specs.{RecordText.record_text, DepsText.deps_text, DepsJson.deps_json}
use Rattle.detect_run.specs.Detection.{IsDetection}
use Rattle.outside.specs.Depot.{Files}
use Rattle.suite_load.specs.declared.loaded.Loaded.{Loaded}
use Rattle.electrictest.specs.{Begun.OfLoaded, Words.Ask}

-- the text of its record, and that of its dependences, as JSON or not
abbrev pub recorded : Names → Detected → List ℕ
recorded names d = record_text d.kept

abbrev pub dependences : Bool → Names → Detected → List ℕ
dependences false names d = deps_text names d.kept.edges d.shown
dependences true names d = deps_json names (length d.kept.units) d.kept.edges d.shown

-- the text of what a detection run of a loaded suite finds, and the units of its tests
pub record IsFound (l : Loaded) (write : Names → Detected → List ℕ) (passed : Bool) (text : List ℕ) (units : ℕ) : Type 0 where
  pub found : Detected
  pub is : IsDetection l.checked l.prints found
  pub writes : text ≡ write l.names found
  pub ends : passed ≡ true
  pub counts : units ≡ sum found.kept.units

-- the same of the suite that is asked for
abbrev pub IsDetected : Files → Ask → (Names → Detected → List ℕ) → Bool → List ℕ → ℕ → Type 0
IsDetected files a write passed text units = OfLoaded (λ l. IsFound l write passed text units) files a
