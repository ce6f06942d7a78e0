-- Numbers in a suite text (this project's).
use Rattle.std.specs.Prelude.{ℕ, zero, suc, ℤ, pos, negsuc, drop, ◌==◌, List, Option, None, Some, if◌then◌else◌, slice_index}
use Rattle.std.specs.Option.{option_map}
use Rattle.dep_record.specs.Fields.{number_up_to}

-- a budget is 1 to 67,108,864 units
unfoldable pub budget_of : List ℕ → Option ℕ
budget_of bytes = if slice_index bytes 0 == 48 then None else number_up_to 67108864 bytes

-- the negative number of a size that isn't 0
abbrev pub negative : Option ℕ → Option ℤ
negative None = None
negative (Some zero) = None
negative (Some (suc n)) = Some (negsuc n)

-- a clock is a signed number of 64 bits, with `-` where it is negative; 45 is `-`
unfoldable pub clock_of : List ℕ → Option ℤ
clock_of bytes = if slice_index bytes 0 == 45 then negative (number_up_to 9223372036854775808 (drop 1 bytes)) else option_map pos (number_up_to 9223372036854775807 bytes)

-- a seed is an unsigned number of 64 bits
unfoldable pub seed_of : List ℕ → Option ℕ
seed_of bytes = number_up_to 18446744073709551615 bytes
