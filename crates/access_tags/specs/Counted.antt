-- The conflicts that are counted in a table.
use Rattle.std.specs.Prelude.{◌≡◌, List, ◌++◌}
use Rattle.access_tags.specs.declared.conflict.{Conflict.Conflict, LocationKey.LocationKey}
use Rattle.access_tags.specs.declared.table.Table.{Table}
use Rattle.access_tags.specs.Rows.{IsTable}

-- these are counted
abbrev pub Counts : Table → List (Conflict LocationKey) → Type 0
Counts x hs = IsTable x.later hs x.rows.items

-- these were counted more
pub record HaveCounted (old new : Table) (xs : List (Conflict LocationKey)) : Type 0 where
  pub later : new.later ≡ old.later
  pub counts : (hs : List (Conflict LocationKey)) → Counts old hs → Counts new (hs ++ xs)
