-- The tags of numbered locations, and how many there are.
use Rattle.std.specs.Prelude.{ℕ, length}
use Rattle.access_tags.specs.declared.cells.Cells.{Cells}
use Rattle.access_tags.specs.{Tag.Tag, Cells.look}

abbrev pub tag_in : Cells → ℕ → Tag
tag_in c n = look c.pasts c.readers c.marks n

abbrev pub count : Cells → ℕ
count c = length c.marks
