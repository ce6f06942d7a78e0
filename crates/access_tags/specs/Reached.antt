-- The classes that are reached.
use Rattle.std.specs.Prelude.{ℕ, Bool, false, length, get_or}
use Rattle.access_tags.specs.declared.reached.Reached.{Reached}

abbrev pub has : Reached → ℕ → Bool
has r c = get_or r.marks.items c false

abbrev pub count : Reached → ℕ
count r = length r.marks.items
