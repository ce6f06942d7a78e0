-- What quiet initialisers leave is typed (JVMS 4.10.1).
use Rattle.std.specs.Prelude.{◌≡◌, ℕ, [], ◌∷◌, true, Some}
use Rattle.jvm_model.specs.declared.values.Location.TheVariants as place
use Rattle.jvm_model.specs.{declared.program.Body.Body, declared.program.Program.Program, World.at, Entries.entries_of, Entries.frame_of}
use Rattle.jvm_model.specs.{Linked.IsField, Linked.opens, Classes.class_at, Classes.field_at, Classes.method_at}
use Rattle.type_frames.specs.{Typing.IsTyped, TypedState.TypedWorld}
use Rattle.quiet_init.specs.{Quiet.is_quiet, Quiet.begun_world, Quiet.left_by, StillLaw.HaveRows}

-- its code has rows, and what it leaves is a typed world
pub record LeavesTyped (p : Program) (c : ℕ) : Type 0 where
  pub rows : (m : ℕ) (b : Body) → (class_at p c).initialiser ≡ Some m → (method_at p m).body ≡ Some b → HaveRows p b.code (entries_of (frame_of b m [] ∷ [])) (begun_world p c)
  pub world : TypedWorld p (left_by p c)
  pub opening : (f : ℕ) → IsField p f → opens p (field_at p f).descriptor (at (left_by p c) (place.Static f)) ≡ true

abbrev pub LeftLaw : Type 0
LeftLaw = (p : Program) (c : ℕ) → IsTyped p → is_quiet p c ≡ true → LeavesTyped p c
