-- The selected tests of cones, and why cones are refused.
use Rattle.std.proofs.Common.{◌↔◌, ℕ, ◌<◌, ◌≤◌, List, length, get_or, All, refl}
use Rattle.jvm_model.specs.declared.program.Program.{Program}
use Rattle.order_law.specs.{declared.edges.Edge.Edge, Conflicts.Member}
use Rattle.test_run.specs.{declared.run_fault.RunFault.RunFault, Running.IsTest}
use Rattle.test_run.specs.declared.run_fault.RunFault.TheVariants as run
use Rattle.cone_run.specs.Cones.{IsConeFault}
use Rattle.selection_close.specs.Closed.{IsAscendingOf}
use Rattle.suite_load.specs.declared.loaded.Loaded.{Loaded}
use Rattle.worker_pool.proofs.Tests.{member_at}
use Rattle.electrictest.specs.{ConeRuns.ConesRefused, Records.Beginning, Tests.list_status}
use Rattle.electrictest.proofs.{ChosenLaws.few_tests, OrderLists.member_all}

-- ---- the selected tests, each once and in suite order

module _ (p : Program) (tests sel : List ℕ) (once : IsAscendingOf tests sel) (named : All (IsTest p) tests) where
  selected_test : (t : ℕ) → Member t sel → IsTest p t
  selected_test t m = member_all (IsTest p) tests named t ((once.exact t).0 m)

  pub selected_tests : All (IsTest p) sel
  selected_tests = λ k d lt. selected_test (get_or sel k d) (member_at sel k d lt)

  pub selected_numbers : All (λ t. 0 < t) sel
  selected_numbers = λ k d lt. (selected_tests k d lt).0

  pub few_selected : length p.tests ≤ 1024 → length sel ≤ 1024
  few_selected few = few_tests p sel once.ascending selected_test few

-- ---- refusals

pub cones_status : (l : Loaded) (b : Beginning) (S : ℕ → Type 0) (x : RunFault) → IsConeFault l.checked b.said.edges S x → ConesRefused l b S (list_status l x)
cones_status l b S (run.OverBudget t) h = record { test = t; first = h; named = refl }
cones_status l b S run.NoMemory h = tt

-- of two sets with the same tests
pub same_fault : (p : Program) (R : List Edge) (S T : ℕ → Type 0) (x : RunFault) → ((t : ℕ) → S t ↔ T t) → IsConeFault p R S x → IsConeFault p R T x
same_fault p R S T (run.OverBudget u) same h = record {
  test = h.test;
  within = (same h.test).0 h.within;
  list = h.list;
  cone = h.cone;
  over = h.over;
  before = λ t m lt. h.before t ((same t).1 m) lt;
}
same_fault p R S T run.NoMemory same h = tt
