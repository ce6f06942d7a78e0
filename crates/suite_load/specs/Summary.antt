-- What is kept of good lines so that the next one is judged at once.
use Rattle.std.specs.Prelude.{◌≡◌, ℕ, Bool, List, [], ◌∷◌, ◌++◌, nat_le}
use Rattle.suite_load.specs.declared.suite_line.SuiteLine.{SuiteLine}
use Rattle.suite_load.specs.declared.suite_line.SuiteLine.TheVariants.{Class, File, Test}
use Rattle.suite_load.specs.SuiteForm.{is_in_order, is_ended, class_names, file_names, test_names}

-- the last place at which a line stands, whether the end stands, and the names
pub record IsSummary (lines : List SuiteLine) (last : ℕ) (ended : Bool) (classes files tests : List (List ℕ)) : Type 0 where
  pub order : (place : ℕ) → is_in_order lines place ≡ nat_le last place
  pub end : is_ended lines ≡ ended
  pub class_list : classes ≡ class_names lines
  pub file_list : files ≡ file_names lines
  pub test_list : tests ≡ test_names lines

-- the names of a kind, with the one that a line gives
abbrev pub classes_with : List (List ℕ) → SuiteLine → List (List ℕ)
classes_with names (Class name) = names ++ name ∷ []
classes_with names _ = names

abbrev pub files_with : List (List ℕ) → SuiteLine → List (List ℕ)
files_with names (File name content) = names ++ name ∷ []
files_with names _ = names

abbrev pub tests_with : List (List ℕ) → SuiteLine → List (List ℕ)
tests_with names (Test test) = names ++ test.name ∷ []
tests_with names _ = names
