-- Touches with the numbers of their tests.
use Rattle.std.specs.Prelude.{ℕ, List, ◌++◌, map, flat_map}
use Rattle.jvm_model.specs.declared.values.Touch.{Touch}
use Rattle.vm_mem.specs.{declared.noted.Noted.Noted, Trace.Trace}

abbrev pub noted_by : ℕ → Touch → Noted
noted_by t x = record { test = t; touch = x }

-- the touches of the tests that ended and of the one that runs, in order
abbrev pub all_noted : Trace → List Touch → List Noted
all_noted h ts = flat_map (λ e. map (noted_by e.0) e.1) h.ended ++ map (noted_by h.test) ts
