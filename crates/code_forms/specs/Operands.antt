-- The operands of an instruction as numbers.
use Rattle.std.specs.Prelude.{ℕ, ℤ, pos, ◌%◌, get_or}
use Rattle.std.specs.Int.{w32, cast_unsigned}
use Rattle.code_decode.specs.declared.instructions.RawOp.{RawOp}

-- the operand at a place, 0 where there is none
abbrev pub operand : RawOp → ℕ → ℤ
operand o i = get_or o.args i (pos 0)

-- the same as a number of 32 bits without sign
abbrev pub number_in : RawOp → ℕ → ℕ
number_in o i = cast_unsigned w32 (operand o i)

-- the pool index that the first operand is, of 16 bits
abbrev pub index_in : RawOp → ℕ
index_in o = number_in o 0 % 65536
