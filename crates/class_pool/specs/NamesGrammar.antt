-- Descriptors by their grammar (JVMS 4.3.2 and 4.3.3), as lists of code units joined from their parts.
use Rattle.std.specs.Prelude.{◌≡◌, ◌≤◌, ◌⊎◌, ℕ, List, [], ◌∷◌, ◌++◌, true, sum_by}
use Rattle.std.specs.List.{AllByRecursion, concat}
use Rattle.std.proofs.Math.ListN.{replicate}
use Rattle.et_base.specs.Names.{is_class_name, is_base, units_of_type}

-- a type that is no array: a base type, or L, a class name and a semicolon
abbrev pub IsElement : List ℕ → Type 0
IsElement us = ((c : ℕ) × (us ≡ c ∷ []) × (is_base c ≡ true)) ⊎ ((name : List ℕ) × (us ≡ 76 ∷ name ++ 59 ∷ []) × (is_class_name name ≡ true))

-- a field descriptor: at most 255 brackets [, and a type that is no array
pub record IsFieldType (us : List ℕ) : Type 0 where
  pub dimensions : ℕ
  pub element : List ℕ
  pub spelled : us ≡ replicate dimensions 91 ++ element
  pub few : dimensions ≤ 255
  pub ends : IsElement element

-- a method descriptor whose arguments take so many units, at most 255: argument types in brackets, and V or a field type
pub record IsMethodType (us : List ℕ) (units : ℕ) : Type 0 where
  pub arguments : List (List ℕ)
  pub returned : List ℕ
  pub spelled : us ≡ 40 ∷ concat arguments ++ 41 ∷ returned
  pub types : AllByRecursion IsFieldType arguments
  pub returns : (returned ≡ 86 ∷ []) ⊎ IsFieldType returned
  pub sum : units ≡ sum_by units_of_type arguments
  pub few : units ≤ 255
