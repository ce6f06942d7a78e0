use Rattle.std.proofs.Common.{◌≡◌, ◌<◌, ℕ, get_or}
use Rattle.access_tags.specs.Cells.{no_past}
use Rattle.access_tags.proofs.cells.all_none.Given as goal

abbrev pub invariant-loop-i : goal.invariant-loop-i
invariant-loop-i l = (k : ℕ) → k < l.i → get_or l.pasts k no_past ≡ no_past
