-- What a memory follows: the touches of the tests.
use Rattle.std.specs.Prelude.{ℕ, List, [], ◌∷◌, ◌++◌}
use Rattle.jvm_model.specs.declared.values.Touch.{Touch}

-- The tests that ended, each with its number and its touches in order, and the number of the one that runs; 0 before the
-- first.
pub record Trace : Type 0 where
  pub ended : List (ℕ × List Touch)
  pub test : ℕ

abbrev pub empty_trace : Trace
empty_trace = record { ended = []; test = 0 }

-- the next test begins after these touches
abbrev pub next_test : Trace → List Touch → ℕ → Trace
next_test h ts t = record { ended = h.ended ++ ((h.test, ts) ∷ []); test = t }

-- what a memory that now follows, it followed before, with these touches added
abbrev pub Extends : {M : Type 0} → (M → Trace → List Touch → Type 0) → M → M → List Touch → Type 0
Extends follows old new xs = (h : Trace) (ts : List Touch) → follows old h ts → follows new h (ts ++ xs)
