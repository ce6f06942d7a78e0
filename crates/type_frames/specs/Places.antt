-- A table of first indices.
use Rattle.std.specs.Prelude.{ℕ, List, ◌≡◌, Option, Some, None, slice_get, slice_set}
use Rattle.type_frames.specs.Frames.{index_of}

-- each entry is the first index of its place among the numbers
abbrev pub IsIndex : List ℕ → List (Option ℕ) → Type 0
IsIndex numbers first = (k : ℕ) (o : Option ℕ) → slice_get first k ≡ Some o → o ≡ index_of k numbers

-- an index at a place that has none yet
abbrev pub noted : List (Option ℕ) → ℕ → ℕ → List (Option ℕ)
noted first n i = elim (slice_get first n) [ Some o ↦ elim o [ None ↦ slice_set first n (Some i) | Some j ↦ first ] | None ↦ first ]
