-- What is kept of the heads that tests touch.
use Rattle.std.specs.Prelude.{ℕ, List}
use Rattle.jvm_model.specs.declared.values.{Kind.Kind, Touch.Touch}
use Rattle.order_law.specs.Histories.{Touches}
use Rattle.access_tags.specs.declared.heads.Heads.{Heads}
use Rattle.access_tags.specs.HeadMarks.{AreMarked}

-- While test t runs and touched ts, the marks are those of the heads that each test touched.
abbrev pub HeadsStand : (ℕ → ℕ → Kind) → Touches → ℕ → List Touch → Heads → Type 0
HeadsStand kinds T t ts h = AreMarked kinds T t ts h.classes h.marks
