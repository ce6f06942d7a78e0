use Rattle.std.proofs.Common.{◌≡◌, ◌<◌, ℕ, get_or}
use Rattle.access_tags.specs.Tag.{no_mark}
use Rattle.access_tags.proofs.cells.all_are.Given as goal

abbrev pub invariant-loop-i : goal.invariant-loop-i
invariant-loop-i l = (k : ℕ) → k < l.i → get_or l.marks k no_mark ≡ l.mark
