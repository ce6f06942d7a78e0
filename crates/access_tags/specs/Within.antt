-- What is touched is among the locations that there are.
use Rattle.std.specs.Prelude.{ℕ, ◌<◌, List, length, get_or, cond}
use Rattle.access_tags.specs.declared.cells.Cells.{Cells}
use Rattle.access_tags.specs.declared.conflict.{LocationKey.LocationKey, Touched.Touched}
use Rattle.access_tags.specs.{Numbering.is_name, Shelf.count}

-- how many locations there are of the spot's sort
abbrev pub room : Cells → Cells → LocationKey → ℕ
room cells named s = cond (is_name s) (count named) (count cells)

abbrev pub AreWithin : Cells → Cells → List Touched → Type 0
AreWithin cells named xs = (k : ℕ) (d : Touched) → k < length xs → (get_or xs k d).at < room cells named (get_or xs k d).spot
