-- The text that names the tests to run again (this project's).
use Rattle.std.specs.Prelude.{ℕ, List, [], ◌∷◌, ◌++◌, codes}
use Rattle.std.specs.List.{flat_map}
use Rattle.dep_record.specs.{DepsText.test_name, RecordText.numbers_text}
use Rattle.jvm_model.specs.declared.program.{Names.Names, Program.Program}
use Rattle.order_law.specs.declared.records.{More.More, Prints.Prints}
use Rattle.impact_pick.specs.Pick.{changed, picked}

-- class files by their numbers, joined by commas; `-` for none
abbrev pub files_text : List ℕ → List ℕ
files_text [] = codes "-"
files_text (j ∷ js) = numbers_text (j ∷ js)

-- `changed J,J`
abbrev pub changed_line : List ℕ → List ℕ
changed_line js = codes "changed " ++ (files_text js ++ (10 ∷ []))

-- `again NAME`
abbrev pub again_line : Names → ℕ → List ℕ
again_line names t = codes "again " ++ (test_name names t ++ (10 ∷ []))

-- the text on class files that changed and tests to run again
abbrev pub text_on : Names → List ℕ → List ℕ → List ℕ
text_on names js ts =
    codes "electric-impact 1" ++ (10 ∷ (changed_line js ++ (flat_map (again_line names) ts ++ (codes "end" ++ (10 ∷ [])))))

-- The changed class files and the picked tests, where tests have these names.
unfoldable pub impact_text : Names → More → Program → Prints → List ℕ
impact_text names m q x = text_on names (changed m x) (picked m q x)
