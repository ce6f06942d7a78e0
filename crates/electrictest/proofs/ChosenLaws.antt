-- The tests of a selection's closure are few, and are the suite's.
use Rattle.std.proofs.Common.{◌≡◌, ℕ, ◌+◌, ◌<◌, ◌≤◌, List, [], ◌∷◌, length, All, refl, inl, inr, arith}
use Rattle.order_law.specs.{declared.edges.Edge.Edge, Conflicts.Member, Plan.AreListedChainsOf, Plan.Ascending, Histories.IsTestNumber}
use Rattle.jvm_model.specs.{declared.program.Program.Program, Linked.Linked}
use Rattle.suite_load.specs.declared.loaded.Loaded.{Loaded}
use Rattle.dep_graph.specs.Graphs.{GoUp}
use Rattle.schedule_plan.specs.Plans.{HasUnits}
use Rattle.selection_close.specs.Closed.{IsClosure}
use Rattle.worker_pool.specs.Plans.{HaveTests}
use Rattle.electrictest.specs.{declared.recorded.Request.Request, Begun.IsOfSuite, Loads.IsSuite, Records.beginning, Selections.IsTestOf}
use Rattle.electrictest.proofs.PlanLaws.{closed_has, tests_have}

-- the tests of a closure have units, as those that were selected have
pub closure_has : (n : ℕ) (R : List Edge) (tests set units : List ℕ) → GoUp n R → IsClosure R tests set → HasUnits tests units → HasUnits set units
closure_has n R tests set units up closure h t m = closed_has n R tests units up h t ((closure.exact t).0 m)

-- an ascending list of numbers above `low` and up to n has at most so many
few_ascending : (l : List ℕ) (low n : ℕ) → low ≤ n → Ascending l → ((t : ℕ) → Member t l → (low < t) × (t ≤ n)) → length l + low ≤ n
few_ascending [] low n le a within = omega arith
few_ascending (t ∷ l) low n le a within =
    let here = within t (inl refl) in
    let rest = few_ascending l t n here.1 a.1 (λ u m. (a.0 u m, (within u (inr m)).1)) in
    omega (arith, here.0, rest)

pub few_tests : (p : Program) (set : List ℕ) → Ascending set → ((t : ℕ) → Member t set → IsTestNumber p t) → length p.tests ≤ 1024 → length set ≤ 1024
few_tests p set a within few = let k = few_ascending set 0 (length p.tests) (omega arith) a within in omega arith

-- with an entry of units for each test
pub units_are_tests : (p : Program) (set units : List ℕ) → length units ≡ length p.tests → HasUnits set units → (t : ℕ) → Member t set → IsTestNumber p t
units_are_tests p set units same has t m = let k = has t m in (k.0, omega (arith, k.1, same))

-- what is begun with tests of the suite's names is of the suite
pub is_of_suite : (l : Loaded) (ts : List ℕ) (b : Request) → IsSuite l → Linked l.checked → b.tests ≡ ts → All (IsTestOf l.names) ts → length b.record.units ≡ length l.checked.tests → IsOfSuite l (beginning b)
is_of_suite l ts b suite linked same named units = record {
  linked = linked;
  tests = units_are_tests l.checked b.tests b.record.units units (tests_have l ts b.tests b.record.units suite same named units);
}

pub chains_have_tests : (p : Program) (R : List Edge) (set : List ℕ) (chains : List (List ℕ)) → AreListedChainsOf R (λ t. Member t set) chains → ((t : ℕ) → Member t set → IsTestNumber p t) → HaveTests p chains
chains_have_tests p R set chains listed within i t m = within t (listed.chains.within i t m)
