-- Parts of which the running test has no exposed read.
use Rattle.std.specs.Prelude.{◌≡◌, ◌<◌, ℕ, List, length, get_or, false}
use Rattle.access_tags.specs.declared.conflict.Touched.{Touched}
use Rattle.access_tags.specs.{Tag.Tag, Numbering.tag_at}

abbrev pub AreUnread : (ℕ → Tag) → (ℕ → Tag) → List Touched → Type 0
AreUnread c d xs = (k : ℕ) (x : Touched) → k < length xs → (tag_at c d (get_or xs k x)).mark.exposed ≡ false
