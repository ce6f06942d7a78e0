-- What a run on workers hands back.
use Rattle.std.specs.Prelude.{◌≡◌, ℕ}
use Rattle.order_law.specs.{Conflicts.Member, Histories.IsTestNumber}
use Rattle.run_core.specs.Run.{IsLegal, IsComplete}
use Rattle.suite_load.specs.declared.loaded.Loaded.{Loaded}
use Rattle.electrictest.specs.{declared.pool_runs.RunResult.RunResult, PoolRuns.IsChosen, Records.Beginning}

-- The closure of a selection ran on so many workers: the core holds a legal and complete history of its chains.
pub record IsPooled (l : Loaded) (b : Beginning) (workers : ℕ) (p : RunResult) : Type 0 where
  pub chosen : IsChosen b p.chosen.set p.chosen.chains.lists p.chosen.selected
  pub tests : (t : ℕ) → Member t p.chosen.set → IsTestNumber l.checked t
  pub program : p.core.program ≡ l.checked
  pub chains : p.core.chains ≡ p.chosen.chains.lists
  pub many : p.core.workers ≡ workers
  pub legal : IsLegal p.core
  pub complete : IsComplete p.core
