-- Runs of tests after a history, and the law of order.
use Rattle.std.specs.Prelude.{◌≡◌, ℕ, ◌<◌, ◌≤◌, List, [], ◌∷◌, length, true, Option, Some}
use Rattle.jvm_model.specs.{declared.program.Program.Program, declared.values.Touch.Touch, World.World, Access.Ran, Access.run, State.test_at, Linked.Linked}
use Rattle.jvm_model.specs.Suite.{End, tree, opening, Given, one_test, runs, seq, is_detected}
use Rattle.order_law.specs.{declared.edges.Edge.Edge, Exposed.written, Exposed.exposed}
use Rattle.order_law.specs.Conflicts.{Tests, Member, IsRecord, Lawful, down}

-- the run of test t in a world, under its own budget
abbrev pub ran : Program → ℕ → World → Ran End
ran p t w = run (tree p t (test_at p t).budget) w

-- the world after a history, the latest test first
abbrev pub after_history : Program → List ℕ → World
after_history p [] = opening p
after_history p (t ∷ D) = (ran p t (after_history p D)).world

abbrev pub ran_after : Program → List ℕ → ℕ → Ran End
ran_after p D t = ran p t (after_history p D)

-- what test t gives after a history
abbrev pub given_after : Program → List ℕ → ℕ → Option Given
given_after p D t = one_test p (after_history p D) t (test_at p t).budget

-- the touches of each test of a run, by its number
abbrev pub Touches : Type 0
Touches = ℕ → List Touch

-- what each test writes, and what it has an exposed read of
abbrev pub writes_in : Touches → Tests
writes_in T t L = written (T t) L

abbrev pub exposed_in : Touches → Tests
exposed_in T t L = exposed (T t) L

-- those of the suite's own order
abbrev pub touches_of : Program → Touches
touches_of p t = (ran_after p (down t) t).touches

abbrev pub writes_of : Program → Tests
writes_of p t L = writes_in (touches_of p) t L

abbrev pub exposed_of : Program → Tests
exposed_of p t L = exposed_in (touches_of p) t L

-- these are the edges of the program's own record
abbrev pub RecordOf : Program → List Edge → Type 0
RecordOf p R = IsRecord (writes_of p) (exposed_of p) (length p.tests) R

-- t is the number of a test
abbrev pub IsTestNumber : Program → ℕ → Type 0
IsTestNumber p t = (0 < t) × (t ≤ length p.tests)

-- each test gave the outcome that it gives when the whole suite is run in order
abbrev pub AreSequential : Program → List ℕ → List Given → Type 0
AreSequential p [] [] = Unit {0}
AreSequential p (t ∷ l) (x ∷ xs) = (seq p t ≡ Some x.outcome) × AreSequential p l xs
AreSequential p _ _ = ⊥

-- In every lawful list of a detected suite's tests each test gives the outcome that it gives in the suite's own order.
abbrev pub LawOfOrder : Type 0
LawOfOrder = (p : Program) (R : List Edge) (l : List ℕ) → Linked p → is_detected p ≡ true → RecordOf p R → ((t : ℕ) → Member t l → IsTestNumber p t) → Lawful R l →
    (xs : List Given) × (runs p l ≡ Some xs) × AreSequential p l xs
