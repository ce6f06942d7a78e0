-- What a plan gives, by what it begins with (this project's).
use Rattle.std.specs.Prelude.{◌≡◌, ℕ, List, Bool, true, Ok}
use Rattle.order_law.specs.{Conflicts.Member, Plan.AreListedChainsOf}
use Rattle.outside.specs.Depot.{Files}
use Rattle.selection_close.specs.Closed.{IsClosure}
use Rattle.schedule_plan.specs.{declared.shares.Share.Share, Plans.IsPlanOf, Plans.chain_units}
use Rattle.suite_load.specs.declared.loaded.Loaded.{Loaded}
use Rattle.electrictest.specs.{Words.Ask, Records.Beginning, Loads.Begins, PlanTexts.plan_text}

-- the chains of the selection's closure, and the plan of them by the record's units
pub record IsPlanReport (b : Beginning) (workers : ℕ) (text : List ℕ) : Type 0 where
  pub set : List ℕ
  pub closure : IsClosure b.said.edges b.tests set
  pub chains : List (List ℕ)
  pub listed : AreListedChainsOf b.said.edges (λ t. Member t set) chains
  pub shares : List Share
  pub planned : IsPlanOf (chain_units chains b.said.units) workers shares
  pub reports : text ≡ plan_text chains b.said.units shares

-- the text of a plan, which runs no test
pub record IsPlanned (files : Files) (a : Ask) (workers : ℕ) (passed : Bool) (text : List ℕ) (units : ℕ) : Type 0 where
  pub loaded : Loaded
  pub beginning : Beginning
  pub begins : Begins files a loaded (Ok beginning)
  pub report : IsPlanReport beginning workers text
  pub ends : passed ≡ true
  pub free : units ≡ 0
