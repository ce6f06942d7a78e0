use Rattle.std.proofs.Common.{◌≡◌, ◌*◌, [], length}
use Rattle.access_tags.specs.Rows.{IsTable}
use Rattle.access_tags.proofs.rows.Row.grow.Given as goal

abbrev pub invariant-loop-earlier : goal.invariant-loop-earlier
invariant-loop-earlier l = (length l.rows.items ≡ 3 * l.earlier) × (IsTable l.fn.first [] l.fn.rows.items → IsTable l.earlier [] l.rows.items)
