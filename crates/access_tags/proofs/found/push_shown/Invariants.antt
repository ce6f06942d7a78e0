use Rattle.std.proofs.Common.{◌≡◌, ◌++◌, take}
use Rattle.order_law.specs.OwnRecord.{owner_in}
use Rattle.access_tags.specs.Places.{shown_rows}
use Rattle.access_tags.proofs.found.push_shown.Given as goal

abbrev pub invariant-loop-i : goal.invariant-loop-i
invariant-loop-i l = l.shown ≡ l.fn.shown ++ take l.i (shown_rows l.p (owner_in l.made) l.names l.rows l.walks)
