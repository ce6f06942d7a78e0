use Rattle.std.proofs.Common.{◌≡◌, ℕ, ◌<◌, [], get_or, false}
use Rattle.std.specs.Str.{bytes_eq}
use Rattle.electrictest.proofs.selections.place_of.Given as goal

-- none of the names so far is this one
abbrev pub invariant-loop-place : goal.invariant-loop-place
invariant-loop-place l = (k : ℕ) → k < l.place → bytes_eq l.name (get_or l.names k []) ≡ false
