-- SHA-256 sums of a suite, and their texts (this project's).
use Rattle.std.specs.Prelude.{ℕ, List, ◌++◌, length, map, codes}
use Rattle.std.specs.{List.flat_map, Int.w64, Int.to_be_bytes}
use Rattle.sha2.specs.Sha256.{sha256}
use Rattle.order_law.specs.declared.records.Prints.{Prints}

-- a file's length in 8 bytes, the highest first, and the file
unfoldable pub sized : List ℕ → List ℕ
sized bytes = to_be_bytes w64 (length bytes) ++ bytes

-- the suite text and all class files, each behind its length
unfoldable pub suite_bytes : List ℕ → List (List ℕ) → List ℕ
suite_bytes suite classes = sized suite ++ flat_map sized classes

-- what names a suite: the sum over these bytes, and the sum over `eager` and them
abbrev pub digest_of : List ℕ → List (List ℕ) → List ℕ
digest_of suite classes = sha256 (suite_bytes suite classes)

abbrev pub eager_digest_of : List ℕ → List (List ℕ) → List ℕ
eager_digest_of suite classes = sha256 (codes "eager" ++ suite_bytes suite classes)

-- all sums of a suite
abbrev pub prints_of : List ℕ → List (List ℕ) → Prints
prints_of suite classes = record { digest = digest_of suite classes; suite = sha256 suite; classes = map sha256 classes; eager = eager_digest_of suite classes }
