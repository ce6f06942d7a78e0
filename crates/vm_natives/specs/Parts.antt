-- Parts of texts.
use Rattle.std.specs.Prelude.{ℕ, ℤ, pos, List, length, take, drop, ◌-◌, ◌&&◌, cond, nat_le, Option, Some, None}

-- the units from the first place up to but not the second, where both are in range and in order
abbrev pub part_of : List ℕ → ℤ → ℤ → Option (List ℕ)
part_of t (pos a) (pos b) = cond (nat_le a b && nat_le b (length t)) (Some (take (b - a) (drop a t))) None
part_of t _ _ = None

-- the end of a part: this place, or the end of the text
abbrev pub end_of : List ℕ → Option ℤ → ℤ
end_of t None = pos (length t)
end_of t (Some b) = b
