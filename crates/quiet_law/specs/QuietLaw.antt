-- The law of quiet initialisers (this project's): taken out of the run, they change no test's verdict and output, and no test costs
-- more.
use Rattle.std.specs.Prelude.{◌≡◌, ℕ, ◌≤◌, true, Some}
use Rattle.jvm_model.specs.declared.{outcome.Outcome.Outcome, program.Program.Program}
use Rattle.jvm_model.specs.{World.World, Reached.Reaches, Reached.Overflows, State.State, Suite.seq, Suite.is_detected}
use Rattle.order_law.specs.{Conflicts.down, Histories.IsTestNumber, Histories.after_history}
use Rattle.type_frames.specs.Typing.{IsTyped}
use Rattle.quiet_init.specs.Quiet.{quiet}

-- When the whole suite runs in order, no step throws a StackOverflowError by itself (JVMS 6.3): the limit of entries isn't met. Where
-- it is met in a quiet initialiser, its class is erroneous ever after, and without quiet initialisers it isn't.
abbrev pub NeverOverflows : Program → Type 0
NeverOverflows p = (t : ℕ) (s : State) (w : World) → IsTestNumber p t → Reaches p t (after_history p (down t)) s w → Overflows p s w → ⊥

-- the second outcome has the verdict and the output of the first, and no more units
pub record IsNoDearer (o r : Outcome) : Type 0 where
  pub verdict : r.verdict ≡ o.verdict
  pub output : r.output ≡ o.output
  pub units : r.units ≤ o.units

-- The suite without quiet initialisers is within its limits too, and each test is no dearer.
pub record AllNoDearer (p : Program) : Type 0 where
  pub detected : is_detected (quiet p) ≡ true
  pub tests : (t : ℕ) (o : Outcome) → seq p t ≡ Some o → (r : Outcome) × (seq (quiet p) t ≡ Some r) × IsNoDearer o r

abbrev pub QuietLaw : Type 0
QuietLaw = (p : Program) → IsTyped p → is_detected p ≡ true → NeverOverflows p → AllNoDearer p
