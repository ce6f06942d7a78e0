-- Facts on slots that the loops over the pool use.
use Rattle.std.proofs.Common.{◌≡◌, ℕ, ◌-◌, List, [], ◌∷◌, ◌++◌, Option, refl, ap}
use Rattle.class_pool.specs.{declared.pool.Entry.Entry, Loops.counted, Pool.slot_at, Pool.slots_at, Pool.is_second, Pool.is_wide}

pub is_second-push : (slots : List (Option Entry)) (slot : Option Entry) → is_second (slots ++ slot ∷ []) ≡ is_wide slot
is_second-push [] slot = refl
is_second-push (a ∷ []) slot = refl
is_second-push (a ∷ b ∷ slots) slot = is_second-push (b ∷ slots) slot

pub begun : (most count : ℕ) (bytes : List ℕ) → most ≡ count - 1 → counted slot_at [] most bytes ≡ slots_at count bytes
begun most count bytes e = ap (λ m. counted slot_at [] m bytes) e
