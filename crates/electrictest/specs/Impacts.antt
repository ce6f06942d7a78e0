-- What an impact gives: the class files that changed since a record, and the tests to run again (this project's).
use Rattle.std.specs.Prelude.{◌≡◌, ℕ, List, Bool, true, Some, Ok}
use Rattle.order_law.specs.declared.records.More.{More}
use Rattle.outside.specs.Depot.{Files}
use Rattle.suite_load.specs.declared.loaded.Loaded.{Loaded}
use Rattle.impact_pick.specs.ImpactText.{impact_text}
use Rattle.electrictest.specs.{Words.Ask, Records.Beginning, Loads.Begins}

-- the text by what version 2 of the record adds; no test is run
pub record IsImpacted (files : Files) (a : Ask) (passed : Bool) (text : List ℕ) (units : ℕ) : Type 0 where
  pub loaded : Loaded
  pub beginning : Beginning
  pub begins : Begins files a loaded (Ok beginning)
  pub more : More
  pub newer : beginning.said.more ≡ Some more
  pub reports : text ≡ impact_text loaded.names more loaded.checked loaded.prints
  pub ends : passed ≡ true
  pub free : units ≡ 0
