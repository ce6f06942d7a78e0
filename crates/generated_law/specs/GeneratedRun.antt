-- What the tests of a generated suite give when they are run in order (this project's).
use Rattle.std.specs.Prelude.{◌≡◌, ◌≤◌, ℕ, ◌+◌, ◌-◌, ◌*◌, ◌%◌, List, [], ◌∷◌, ◌++◌, length, decimal, true, Some, ◌==◌, if◌then◌else◌}
use Rattle.jvm_model.specs.{declared.outcome.Outcome.Outcome, declared.outcome.Verdict.TheVariants.Passed, Suite.seq, Suite.is_detected}
use Rattle.generated_law.specs.GeneratedSuite.{generated_program}

-- the value of a group's static before a test of it that isn't the first: the first one's number, and in the end that and
-- the third one's
abbrev pub value_before : ℕ → ℕ
value_before i = if (i - 1) % 4 == 3 then 2 * i - 4 else i - (i - 1) % 4

-- a number in a line
abbrev pub line_of : ℕ → List ℕ
line_of n = decimal n ++ 10 ∷ []

abbrev pub passed_with : List ℕ → ℕ → Outcome
passed_with output units = record { verdict = Passed; output = output; units = units }

-- The outcome of test i: the first of a group sets the static, the third adds to it, and the others print it.
unfoldable pub outcome_of : ℕ → Outcome
outcome_of i = if (i - 1) % 4 == 0 then passed_with [] 6
    else if (i - 1) % 4 == 2 then passed_with [] 9 else passed_with (line_of (value_before i)) (6 + length (line_of (value_before i)))

-- The suite is detected within its limits, and its tests have these outcomes.
pub record RunsAsGenerated (k : ℕ) : Type 0 where
  pub detected : is_detected (generated_program k) ≡ true
  pub tests : (i : ℕ) → 1 ≤ i → i ≤ k → seq (generated_program k) i ≡ Some (outcome_of i)

abbrev pub RunLaw : Type 0
RunLaw = (k : ℕ) → k ≤ 1024 → RunsAsGenerated k
