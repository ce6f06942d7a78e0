-- What the run of one test gives, as code answers it.
use Rattle.std.specs.Prelude.{ℕ, List, Option, Some, None}
use Rattle.jvm_model.specs.declared.{outcome.Outcome.Outcome, program.Program.Program, values.Touch.Touch}
use Rattle.jvm_model.specs.{Access.run, Suite.Given, Suite.tree, World.World}
use Rattle.vm_mem.specs.Trace.{Trace, next_test}

-- the touches of test t under the budget b, begun in the world w
abbrev pub touches_of : Program → ℕ → World → ℕ → List Touch
touches_of p t w b = (run (tree p t b) w).touches

-- what it gives, where the code answered this outcome or none and left this world
abbrev pub given_in : Program → ℕ → World → ℕ → Option Outcome → World → Option Given
given_in p t w b None v = None
given_in p t w b (Some o) v = Some (record { outcome = o; world = v; touches = touches_of p t w b })

-- a memory then follows one test more, and its touches
abbrev pub TracesOne : {M : Type 0} → Program → ℕ → World → ℕ → (M → Trace → List Touch → Type 0) → M → M → Type 0
TracesOne p t w b follows old new = (h : Trace) (ts : List Touch) → follows old h ts → follows new (next_test h ts t) (touches_of p t w b)
