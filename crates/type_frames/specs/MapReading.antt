-- What the parts of a reader of stack maps answer.
use Rattle.std.specs.Prelude.{ℕ, List, ◌∷◌, ◌++◌, Option, Some, None, ◌≡◌, ◌+◌}
use Rattle.jvm_model.specs.declared.program.{Body.Body, FrameRec.FrameRec}
use Rattle.type_frames.specs.{declared.vtype.VType.VType, declared.given.NextFrame.NextFrame, Given.frames_from, Given.joined}

-- a list, if it is there, behind another
abbrev pub prefixed : {A : Type 0} → List A → Option (List A) → Option (List A)
prefixed xs None = None
prefixed xs (Some ys) = Some (xs ++ ys)

-- what was read of an entry, whatever comes behind it
abbrev pub IsTaken : Body → ℕ → List VType → FrameRec → Option NextFrame → Type 0
IsTaken b least ts f None = (fs : List FrameRec) → frames_from b least ts (f ∷ fs) ≡ None
IsTaken b least ts f (Some x) = (fs : List FrameRec) → frames_from b least ts (f ∷ fs) ≡ joined (Some x.frame) (frames_from b (x.frame.pc + 1) x.locals fs)
