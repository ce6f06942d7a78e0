-- Tests that do in one program what they do in another (this project's).
use Rattle.std.specs.Prelude.{◌≡◌, ◌⊎◌, ℕ, ◌<◌, length, true, false, Some}
use Rattle.jvm_model.specs.declared.{outcome.Outcome.Outcome, program.Program.Program, program.TestEntry.TestEntry}
use Rattle.jvm_model.specs.{Linked.Linked, State.test_at, Suite.seq, Suite.is_detected}
use Rattle.order_law.specs.{Histories.IsTestNumber, Matched.Matched, Matched.PairedTest, Numbers.Numbers, Outcomes.PairedOutcome}
use Rattle.order_law.specs.Reach.{is_settled, puts_out_somewhere}

-- the same test under the same budget
pub record PairedEntry (n : Numbers) (t u : TestEntry) : Type 0 where
  pub test : PairedTest n t u
  pub budget : t.budget ≡ u.budget

-- test t is carried over: it is the same in both
abbrev pub IsCarried : Numbers → Program → Program → ℕ → Type 0
IsCarried n p q t = PairedEntry n (test_at p t) (test_at q t)

-- in the order of their suites both give the test, and the same but for the number of a throwable's class
pub record GivesSame (n : Numbers) (p q : Program) (t : ℕ) : Type 0 where
  pub first : Outcome
  pub second : Outcome
  pub first_is : seq p t ≡ Some first
  pub second_is : seq q t ≡ Some second
  pub same : PairedOutcome n first second

-- Two matched programs with the same opening files and as many tests. A test that is carried over gives the same in both
-- where all tests before it are carried over too, or where it is settled in the one and no code of the other puts
-- `System.out`.
abbrev pub CarriedLaw : Type 0
CarriedLaw = (p q : Program) (n : Numbers) (t : ℕ) → Linked p → Linked q → Matched n p q → p.files ≡ q.files → length p.tests ≡ length q.tests → is_detected p ≡ true → is_detected q ≡ true →
    IsTestNumber p t → IsCarried n p q t →
    (((u : ℕ) → 0 < u → u < t → IsCarried n p q u) ⊎ ((is_settled p t ≡ true) × (puts_out_somewhere q ≡ false))) →
    GivesSame n p q t
