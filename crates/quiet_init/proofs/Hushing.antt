-- In a typed program each class that isn't trivial, and is so without quiet initialisers, is hushed.
use Rattle.std.proofs.Common.{◌≡◌, ℕ, true, false}
use Rattle.jvm_model.specs.{declared.program.Program.Program, Classes.is_trivial}
use Rattle.type_frames.specs.Typing.{IsTyped}
use Rattle.quiet_init.specs.Quiet.{quiet}
use Rattle.quiet_init.proofs.{Going.Hushed, Hushes.hushes, Sounds.sound, Walk.left_law}

pub hushed_classes : (p : Program) → IsTyped p → (c : ℕ) → is_trivial p c ≡ false → is_trivial (quiet p) c ≡ true → Hushed p c
hushed_classes p ty c n e = hushes p (sound p ty.linked (λ d m b q i h. (left_law p d ty q).rows m b i h)) c n e
