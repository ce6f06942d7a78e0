-- The tests that a word names (this project's).
use Rattle.std.specs.Prelude.{ℕ, ◌+◌, ◌<◌, ◌≤◌, ◌==◌, List, [], ◌∷◌, length, codes, position, Option, Some, None, Result, Ok, Err, if◌then◌else◌}
use Rattle.std.specs.{List.slice_split, List.range_with_len, Str.bytes_eq}
pub use Rattle.et_base.specs.Answers.{◌>>=◌}
use Rattle.jvm_model.specs.declared.program.Names.{Names}
use Rattle.electrictest.specs.declared.status.InputFault.{InputFault}
use Rattle.electrictest.specs.declared.status.InputFault.TheVariants as input

-- what stands between commas, 44; each piece counts as a name, an empty one too
abbrev pub pieces_of : List ℕ → List (List ℕ)
pieces_of word = slice_split (λ b. b == 44) word

-- the number of a test by its place
abbrev pub numbered_test : List ℕ → Option ℕ → Result ℕ InputFault
numbered_test name None = Err (input.NoTest name)
numbered_test name (Some place) = Ok (place + 1)

abbrev pub test_of : Names → List ℕ → Result ℕ InputFault
test_of names name = numbered_test name (position (bytes_eq name) names.tests)

-- the tests of these names, or the first that is none
abbrev pub tests_of : Names → List (List ℕ) → Result (List ℕ) InputFault
tests_of names [] = Ok []
tests_of names (p ∷ ps) = do
  t ← test_of names p
  ts ← tests_of names ps
  Ok (t ∷ ts)

-- the tests that an order names, as they stand there
unfoldable pub ordered : Names → List ℕ → Result (List ℕ) InputFault
ordered names word = tests_of names (pieces_of word)

-- the tests that a selection names; `all` is the whole suite
unfoldable pub selected : Names → List ℕ → Result (List ℕ) InputFault
selected names word = if bytes_eq word (codes "all") then Ok (range_with_len 1 (length names.tests)) else tests_of names (pieces_of word)

-- a number of a test of these names
abbrev pub IsTestOf : Names → ℕ → Type 0
IsTestOf names t = (0 < t) × (t ≤ length names.tests)
