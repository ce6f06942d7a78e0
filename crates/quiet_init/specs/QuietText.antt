-- The text of the quiet classes of a program (this project's).
use Rattle.std.specs.Prelude.{ℕ, List, [], ◌∷◌, ◌++◌, codes}
use Rattle.jvm_model.specs.{declared.program.Program.Program, Texts.class_text}
use Rattle.quiet_init.specs.Quiet.{quiet_classes}

-- `class NAME`
abbrev pub class_line : Program → ℕ → List ℕ
class_line p c = codes "class " ++ (class_text p c ++ (10 ∷ []))

-- the lines of classes
abbrev pub class_lines : Program → List ℕ → List ℕ
class_lines p [] = []
class_lines p (c ∷ cs) = class_line p c ++ class_lines p cs

-- the text with the lines of these classes
unfoldable pub text_of : Program → List ℕ → List ℕ
text_of p classes = codes "electric-quiet 1" ++ (10 ∷ (class_lines p classes ++ (codes "end" ++ (10 ∷ []))))

-- `electric-quiet 1`, a line for each quiet class in suite order, and `end`
abbrev pub quiet_text : Program → List ℕ
quiet_text p = text_of p (quiet_classes p)
