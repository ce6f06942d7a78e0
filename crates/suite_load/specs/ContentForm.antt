-- What the text of a file line stands for (this project's).
use Rattle.std.specs.Prelude.{ℕ, ◌==◌, List, [], ◌∷◌, Option, None, Some, if◌then◌else◌}
use Rattle.std.specs.Option.{option_map}

-- a unit before the others, if there are such
abbrev pub onto : ℕ → Option (List ℕ) → Option (List ℕ)
onto unit units = option_map (λ us. unit ∷ us) units

-- `\n` is a line feed and `\\` a backslash; nothing else follows a backslash. 92 is the backslash, 110 is `n`, 10 is the line feed
unfoldable pub content_of : List ℕ → Option (List ℕ)
content_of [] = Some []
content_of (b ∷ []) = if b == 92 then None else Some (b ∷ [])
content_of (b ∷ c ∷ cs) =
    if b == 92 then (if c == 110 then onto 10 (content_of cs) else (if c == 92 then onto 92 (content_of cs) else None))
    else onto b (content_of (c ∷ cs))

-- the unit at the front, and the bytes after it
unfoldable pub unit_at : List ℕ → Option (ℕ × List ℕ)
unit_at [] = None
unit_at (b ∷ []) = if b == 92 then None else Some (b, [])
unit_at (b ∷ c ∷ cs) =
    if b == 92 then (if c == 110 then Some (10, cs) else (if c == 92 then Some (92, cs) else None)) else Some (b, c ∷ cs)
