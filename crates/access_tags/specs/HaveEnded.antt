-- The tags of locations after a test ended at some of them, with its conflicts there.
use Rattle.std.specs.Prelude.{◌≡◌, ℕ, List, cond}
use Rattle.std.specs.List.{list_any}
use Rattle.jvm_model.specs.declared.values.Location.{Location}
use Rattle.jvm_model.specs.World.{same}
use Rattle.access_tags.specs.declared.conflict.{Conflict.Conflict, LocationKey.LocationKey, Touched.Touched}
use Rattle.access_tags.specs.declared.table.Table.{Table}
use Rattle.access_tags.specs.{Tag.Tag, Tag.ended, Cells.Apart, Counted.HaveCounted}
use Rattle.access_tags.specs.Numbering.{Numbering, ArePlaced, conflicts_in, is_at, locations, view}

-- from the tags c of cells and d of names to e and f test t ended at these parts, and its conflicts there were counted
pub record IsEnd (n : Numbering) (t : ℕ) (c d e f : ℕ → Tag) (a b : Table) (xs : List Touched) : Type 0 where
  pub tags : (L : Location) → view n e f L ≡ cond (list_any (is_at n L) xs) (ended t (view n c d L)) (view n c d L)
  pub counted : HaveCounted a b (conflicts_in c d xs)

-- some conflicts were counted, and where no two of the parts are the same location, it is the end of a test there
pub record HaveEnded (t : ℕ) (c d e f : ℕ → Tag) (a b : Table) (xs : List Touched) : Type 0 where
  pub some : (hs : List (Conflict LocationKey)) × HaveCounted a b hs
  pub apart : (n : Numbering) → ArePlaced n xs → Apart same (locations n xs) → IsEnd n t c d e f a b xs
