-- Lines of a text, and their fields (this project's).
use Rattle.std.specs.Prelude.{ℕ, ◌+◌, ◌==◌, Bool, true, false, List, [], ◌∷◌, length, take, drop, position, Option, None, Some, is_some, unwrap_or, if◌then◌else◌}
use Rattle.std.specs.List.{slice_split}

-- the bytes before a place and those after it
abbrev pub cut_at : Option ℕ → List ℕ → List ℕ × Option (List ℕ)
cut_at None bytes = (bytes, None)
cut_at (Some i) bytes = (take i bytes, Some (drop (i + 1) bytes))

-- what stands before the first separator, and what follows it, if there is one
unfoldable pub cut : ℕ → List ℕ → List ℕ × Option (List ℕ)
cut separator bytes = cut_at (position (λ b. b == separator) bytes) bytes

-- a line: what stands before its line feed, and whether there is a line feed
pub record Row : Type 0 where
  pub bytes : List ℕ
  pub ended : Bool

-- Each piece but the last is a line that a line feed ends. The last piece is a line without one, unless it is empty.
abbrev pub rows_of_pieces : List (List ℕ) → List Row
rows_of_pieces [] = []
rows_of_pieces (piece ∷ []) = if length piece == 0 then [] else record { bytes = piece; ended = false } ∷ []
rows_of_pieces (piece ∷ next ∷ more) = record { bytes = piece; ended = true } ∷ rows_of_pieces (next ∷ more)

-- the lines of a text; 10 is the line feed
unfoldable pub rows : List ℕ → List Row
rows text = rows_of_pieces (slice_split (λ b. b == 10) text)

-- the first line of a text that isn't empty, and the text after it; 10 is the line feed
abbrev pub first_row : List ℕ → Row
first_row text = record { bytes = (cut 10 text).0; ended = is_some (cut 10 text).1 }

abbrev pub rest_of : List ℕ → List ℕ
rest_of text = unwrap_or (cut 10 text).1 []
