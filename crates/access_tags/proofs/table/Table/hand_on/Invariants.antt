use Rattle.std.proofs.Common.{◌≡◌, ◌<◌, ◌≤◌, ◌*◌, ◌++◌, ◌-◌, ℕ, List, [], flat_map, get_or, length}
use Rattle.std.specs.List.{range_with_len}
use Rattle.access_tags.specs.declared.conflict.{Conflict.Conflict, LocationKey.LocationKey}
use Rattle.access_tags.specs.declared.rows.Row.{Row}
use Rattle.access_tags.specs.{Counted.Counts, Rows.HasRows, Rows.rows_between}
use Rattle.access_tags.proofs.table.Table.hand_on.Given as goal

abbrev pub invariant-loop-earlier : goal.invariant-loop-earlier
invariant-loop-earlier l = (l.self.later ≡ l.fn.self.later) × (length l.self.rows.items ≡ 3 * l.self.later)
    × ((i : ℕ) (d : Row) → 3 * l.earlier ≤ i → get_or l.self.rows.items i d ≡ get_or l.fn.self.rows.items i d)
    × ((hs : List (Conflict LocationKey)) → Counts l.fn.self hs → l.rows ≡ l.fn.rows ++ flat_map (λ u. rows_between u hs) (range_with_len 1 (l.earlier - 1)))
    × ((hs : List (Conflict LocationKey)) → Counts l.fn.self hs → (u : ℕ) → 1 ≤ u → u < l.earlier → HasRows u [] l.self.rows.items)
