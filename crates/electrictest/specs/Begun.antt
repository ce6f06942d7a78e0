-- What a command begins with, and what it gives: units that are counted, or a number of units that is passed (this project's).
use Rattle.std.specs.Prelude.{◌≡◌, ℕ, ◌+◌, Ok}
use Rattle.jvm_model.specs.Linked.{Linked}
use Rattle.order_law.specs.{Conflicts.Member, Histories.IsTestNumber}
use Rattle.outside.specs.Depot.{Files}
use Rattle.suite_load.specs.declared.loaded.Loaded.{Loaded}
use Rattle.electrictest.specs.{declared.status.Status.Status, declared.status.OverFault.OverFault, Loads.Begins, Loads.LoadsFor, Records.Beginning, Words.Ask}
use Rattle.electrictest.specs.declared.status.Status.TheVariants as ends

-- the suite is loaded, and this is so of it
pub record OfLoaded (Is : Loaded → Type 0) (files : Files) (a : Ask) : Type 0 where
  pub loaded : Loaded
  pub load : LoadsFor files a (Ok loaded)
  pub is : Is loaded

-- What is begun is of the suite: its program is linked, and the tests that are named are its tests.
pub record IsOfSuite (l : Loaded) (b : Beginning) : Type 0 where
  pub linked : Linked l.checked
  pub tests : (t : ℕ) → Member t b.tests → IsTestNumber l.checked t

-- What is begun is of the suite, and this is so of it.
pub record OfBegun (Is : Loaded → Beginning → Type 0) (files : Files) (a : Ask) : Type 0 where
  pub loaded : Loaded
  pub beginning : Beginning
  pub begins : Begins files a loaded (Ok beginning)
  pub suite : IsOfSuite loaded beginning
  pub is : Is loaded beginning

-- a report of some units, and they are counted
pub record AreCounted (IsReport : ℕ → Type 0) (begun now : ℕ) : Type 0 where
  pub units : ℕ
  pub report : IsReport units
  pub counts : now ≡ begun + units

-- want of memory, or a number of units that is passed
abbrev pub OnlyOver : (OverFault → Type 0) → Status → Type 0
OnlyOver IsOver ends.NoMemory = Unit {0}
OnlyOver IsOver (ends.Over f) = IsOver f
OnlyOver IsOver _ = ⊥
