-- What a depot holds, what it told of that, and how it failed (this project's).
use Rattle.std.specs.Prelude.{◌≡◌, ◌<◌, ℕ, List, [], ◌∷◌, length, map, All, Option, Some, None, IsSomeAnd, Vec, if◌then◌else◌}
use Rattle.std.specs.{declared.alloc.Global.Global, Str.bytes_eq}
use Rattle.outside.specs.Counts.{Rose}

-- names with their bytes; the first of a name counts
abbrev pub Files : Type 0
Files = List (List ℕ × List ℕ)

-- the bytes at a name, those of the first file that has it
unfoldable pub content : Files → List ℕ → Option (List ℕ)
content [] name = None
content (file ∷ files) name = if bytes_eq file.0 name then Some file.1 else content files name

-- stored files as names with their bytes
abbrev pub files_of : List (List ℕ × Vec ℕ Global) → Files
files_of = map (λ file. (file.0, file.1.items))

-- ---- what is told of the files

-- What a read answered of the file of a name: these are its bytes; there is none; it is longer than that.
pub data Answer : Type 0 where
  has_bytes : List ℕ → List ℕ → Answer
  is_absent : List ℕ → Answer
  is_longer : List ℕ → ℕ → Answer

abbrev pub Agrees : Files → Answer → Type 0
Agrees files (has_bytes name bytes) = content files name ≡ Some bytes
Agrees files (is_absent name) = content files name ≡ None
Agrees files (is_longer name limit) = IsSomeAnd (content files name) (λ bytes. limit < length bytes)

-- All files, or what reads answered so far.
pub data Told : Type 0 where
  all_files : Files → Told
  answers : List Answer → Told

-- the files that a depot may hold, by what it told
abbrev pub MayHold : Told → Files → Type 0
MayHold (all_files all) files = files ≡ all
MayHold (answers given) files = All (Agrees files) given

-- of whichever files the depot may hold
abbrev pub OfHeld : Told → (Files → Type 0) → Type 0
OfHeld told P = (files : Files) → MayHold told files → P files

-- what was told still holds
abbrev pub TellsOn : Told → Told → Type 0
TellsOn old new = OfHeld new (MayHold old)

-- ---- a depot

pub record DepotView : Type 0 where
  pub told : Told
  -- how often the depot failed, up to the greatest u64
  pub faults : ℕ
  -- the name of the last read that failed
  pub last_failed : Option (List ℕ)

-- from old to new the depot failed, last at the file of this name
pub record FailedAt (old new : DepotView) (name : List ℕ) : Type 0 where
  pub rose : Rose old.faults new.faults
  pub named : new.last_failed ≡ Some name
