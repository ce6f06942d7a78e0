-- The parts of what makes a class quiet, as its test goes through them (JVMS 5.5).
use Rattle.std.specs.Prelude.{◌≡◌, ℕ, List, get_or, Bool, false, Some, ◌&&◌, ◌||◌}
use Rattle.std.specs.List.{list_all}
use Rattle.jvm_model.specs.declared.program.{Body.Body, Program.Program}
use Rattle.jvm_model.specs.Classes.{class_at, method_at, is_trivial, default_interfaces}
use Rattle.quiet_init.specs.Quiet.{is_still_start}

-- the method and the body of the class's `<clinit>`
abbrev pub IsStart : Program → ℕ → ℕ → Body → Type 0
IsStart p c m b = ((class_at p c).initialiser ≡ Some m) × ((method_at p m).body ≡ Some b)

-- the list of still starts; a number past the classes has none
abbrev pub AreStill : Program → List Bool → Type 0
AreStill p starts = (c : ℕ) → get_or starts c false ≡ is_still_start p c

-- an interface is trivial or starts so
abbrev pub passes_interface : Program → ℕ → Bool
passes_interface p i = is_trivial p i || is_still_start p i

-- a class is trivial, or it starts so and its default interfaces pass
abbrev pub passes : Program → ℕ → Bool
passes p d = is_trivial p d || (is_still_start p d && list_all (λ i. passes_interface p i) (default_interfaces p d))
