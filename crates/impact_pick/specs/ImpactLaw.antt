-- What changed class files leave as it was: the law (this project's).
use Rattle.std.specs.Prelude.{◌≡◌, ℕ, ◌≤◌, List, length, slice_get, All, true, false, Some, Ok, IsSome}
use Rattle.class_reader.specs.{declared.parts.ClassParts.ClassParts, ClassGrammar.IsClass}
use Rattle.class_link.specs.{declared.lines.TestLines.TestLines, Link.Links, Link.AreLines}
use Rattle.jvm_model.specs.{declared.program.Program.Program, Suite.is_detected}
use Rattle.order_law.specs.declared.records.{Prints.Prints, Record.Record, More.More}
use Rattle.order_law.specs.{Histories.IsTestNumber, Reach.IsRecordOf}
use Rattle.impact_pick.specs.{Pick.is_picked, Unpicked.lines_of}

-- one sum for each class file
abbrev pub HasSums : Prints → List ClassParts → Type 0
HasSums x cs = length x.classes ≡ length cs

-- where both have one sum at a place, the class files of that place are equal
abbrev pub SumsTell : Prints → Prints → List ClassParts → List ClassParts → Type 0
SumsTell x y cs ds = (j : ℕ) (h : List ℕ) → slice_get x.classes j ≡ Some h → slice_get y.classes j ≡ Some h → slice_get cs j ≡ slice_get ds j

-- Two programs linked from the same test lines over two lists of equally many class files, and the record of the first one's
-- own run: each test that isn't picked has in the second one's own run the report lines that it has in the first one's.
abbrev pub ImpactLaw : Type 0
ImpactLaw = (cs ds : List ClassParts) (lines : TestLines) (p q : Program) (x y : Prints) (r : Record) (m : More) (tests : List (List ℕ)) (t : ℕ) →
    All IsClass cs → All IsClass ds → length cs ≤ 1024 → length cs ≡ length ds → AreLines lines →
    Links cs lines (Ok p) → Links ds lines (Ok q) → is_detected p ≡ true → is_detected q ≡ true →
    HasSums x cs → HasSums y ds → SumsTell x y cs ds → IsRecordOf p x r → r.more ≡ Some m →
    IsTestNumber p t → is_picked m q y t ≡ false →
    IsSome (lines_of tests p t) × (lines_of tests q t ≡ lines_of tests p t)
