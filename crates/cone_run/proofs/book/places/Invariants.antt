-- So many places so far, with nothing in them.
use Rattle.std.proofs.Common.{◌≡◌, ℕ, length, get_or, None}
use Rattle.cone_run.proofs.book.places.Given as goal

abbrev pub invariant-loop : goal.invariant-loop
invariant-loop l = record {
  many : length l.pieces.items ≡ l.counter;
  none : (i : ℕ) → get_or l.pieces.items i None ≡ None;
}
