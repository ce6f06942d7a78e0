-- Modified UTF-8 read from left to right. Lemmas of proofs/UtfLaws.antt say that this answers what the grammar says.
use Rattle.std.specs.Prelude.{ℕ, zero, suc, ◌+◌, ◌-◌, ◌*◌, List, [], ◌∷◌, length, Option, Some, None, Result, Ok, Err, Bool, nat_lt, nat_le, ◌&&◌, ◌||◌, ◌==◌, if◌then◌else◌}
use Rattle.et_base.specs.Utf.{is_one, group}

-- a byte of a group after its first
abbrev pub is_more : ℕ → Bool
is_more b = nat_le 128 b && nat_lt b 192

-- the unit that two bytes stand for
abbrev pub two : ℕ → ℕ → ℕ
two a b = (a - 192) * 64 + (b - 128)

abbrev pub is_two : ℕ → ℕ → Bool
is_two a b = nat_le 192 a && nat_lt a 224 && is_more b && (two a b == 0 || nat_le 128 (two a b))

-- the unit that three bytes stand for
abbrev pub three : ℕ → ℕ → ℕ → ℕ
three a b c = (a - 224) * 4096 + (b - 128) * 64 + (c - 128)

abbrev pub is_three : ℕ → ℕ → ℕ → Bool
is_three a b c = nat_le 224 a && nat_lt a 240 && is_more b && is_more c && nat_le 2048 (three a b c)

abbrev pub third : ℕ → ℕ → List ℕ → Option (ℕ × List ℕ)
third a b [] = None
third a b (c ∷ rest) = if is_three a b c then Some (three a b c, rest) else None

abbrev pub second : ℕ → List ℕ → Option (ℕ × List ℕ)
second a [] = None
second a (b ∷ rest) = if is_two a b then Some (two a b, rest) else third a b rest

-- the unit whose group stands at the front, and the bytes after it
unfoldable pub unit_at : List ℕ → Option (ℕ × List ℕ)
unit_at [] = None
unit_at (a ∷ rest) = if is_one a then Some (a, rest) else second a rest

-- one more unit in front
abbrev pub with_unit : ℕ → Result (List ℕ) ℕ → Result (List ℕ) ℕ
with_unit u (Ok us) = Ok (u ∷ us)
with_unit u (Err at) = Err at

-- what follows the bytes up to `at`: a unit and what `next` makes of the rest, or a bad group
abbrev pub units_after : (ℕ → List ℕ → Result (List ℕ) ℕ) → ℕ → Option (ℕ × List ℕ) → Result (List ℕ) ℕ
units_after next at None = Err at
units_after next at (Some x) = with_unit x.0 (next (at + length (group x.0)) x.1)

-- the units of at most n bytes, or the offset of the first bad group, counted from `at`
unfoldable pub units_from : ℕ → ℕ → List ℕ → Result (List ℕ) ℕ
units_from n at [] = Ok []
units_from zero at (b ∷ bytes) = Err at
units_from (suc n) at (b ∷ bytes) = units_after (units_from n) at (unit_at (b ∷ bytes))

-- the units, or the offset of the first bad group
abbrev pub units_read : List ℕ → Result (List ℕ) ℕ
units_read bytes = units_from (length bytes) 0 bytes
