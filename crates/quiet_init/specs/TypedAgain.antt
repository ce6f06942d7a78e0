-- The program without quiet initialisers is typed (JVMS 4.10.1).
use Rattle.std.specs.Prelude.{◌≡◌}
use Rattle.jvm_model.specs.declared.program.Program.{Program}
use Rattle.type_frames.specs.Typing.{IsTyped, all_frames}
use Rattle.quiet_init.specs.Quiet.{quiet}

-- it is typed, and its stack maps give the same frames
abbrev pub TypedAgain : Type 0
TypedAgain = (p : Program) → IsTyped p → IsTyped (quiet p) × (all_frames (quiet p) ≡ all_frames p)
