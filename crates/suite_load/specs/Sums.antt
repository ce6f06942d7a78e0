-- The sums of a suite so far.
use Rattle.std.specs.Prelude.{◌≡◌, ℕ, List, ◌++◌, map, codes}
use Rattle.sha2.specs.{Sha256.sha256, Hashers.Holds256}
use Rattle.dep_record.specs.Hashes.{suite_bytes}
use Rattle.suite_load.specs.declared.print_sums.PrintSums.{PrintSums}

-- the sums over this suite text and these class files
pub record AreSums (s : PrintSums) (text : List ℕ) (files : List (List ℕ)) : Type 0 where
  pub digest : Holds256 s.digest (suite_bytes text files)
  pub eager : Holds256 s.eager (codes "eager" ++ suite_bytes text files)
  pub suite : s.suite ≡ sha256 text
  pub classes : s.classes ≡ map sha256 files

-- the sums with these class files added
abbrev pub AreMoreSums : PrintSums → PrintSums → List (List ℕ) → Type 0
AreMoreSums old new more = (text : List ℕ) (files : List (List ℕ)) → AreSums old text files → AreSums new text (files ++ more)
