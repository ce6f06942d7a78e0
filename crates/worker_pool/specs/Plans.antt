-- What a plan's run asks of its chains, what it counts, and when a test stops it.
use Rattle.std.specs.Prelude.{◌≡◌, ℕ, ◌+◌, List, fold, reverse, None}
use Rattle.jvm_model.specs.{declared.program.Program.Program, State.test_at, Suite.one_test, World.World}
use Rattle.order_law.specs.{Conflicts.Member, Histories.IsTestNumber}
use Rattle.order_law.specs.Plan as law
use Rattle.run_core.specs.{declared.events.Event.Event, declared.events.Event.TheVariants.Claim, declared.events.Event.TheVariants.Post, Refusal.HasOpen}
use Rattle.test_run.specs.Running.{IsAfter}

-- the tests of a list, and of chains, are tests of the program
abbrev pub AreTests : Program → List ℕ → Type 0
AreTests p l = (t : ℕ) → Member t l → IsTestNumber p t

abbrev pub HaveTests : Program → List (List ℕ) → Type 0
HaveTests p C = (i : ℕ) → AreTests p (law.chain_at C i)

-- the units of all posts
abbrev pub units_and : ℕ → Event → ℕ
units_and n (Claim w c) = n
units_and n (Post q) = n + q.outcome.units

abbrev pub units_of : List Event → ℕ
units_of h = fold units_and 0 h

-- after these tests, run on one heap, the test gives nothing within its budget
pub record GivesNone (p : Program) (l : List ℕ) (t : ℕ) : Type 0 where
  pub world : World
  pub after : IsAfter p l world
  pub none : one_test p world t (test_at p t).budget ≡ None

-- Why a worker's test stops a plan: in a legal history of the chains this worker posted the list, and has this test to
-- post next, which gives nothing after the list. So the list is whole chains, each once, and then the first tests of one
-- more, whose next test it is.
pub record IsStop (p : Program) (C : List (List ℕ)) (n w t : ℕ) (l : List ℕ) : Type 0 where
  pub events : List law.Event
  pub legal : law.Legal p C n events
  pub posted : l ≡ reverse (law.posts events w)
  pub chain : ℕ
  pub next : HasOpen C events w chain t
  pub chains : law.IsWholeThenPart C l t
  pub none : GivesNone p l t
