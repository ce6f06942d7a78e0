-- The arithmetic of whole numbers in the instruction set (JVMS 6.5, under each instruction's name): exact, then wrapped in two's complement.
use Rattle.std.specs.Prelude.{ℕ, ◌/◌, ◌%◌, ◌^◌, ℤ, pos, negsuc, ◌+ℤ◌, ◌-ℤ◌, ◌*ℤ◌, neg_ℤ, int_div, int_rem, if◌then◌else◌}
use Rattle.std.specs.Int.RustNames.{int_lt}
use Rattle.std.specs.Int.{w8, w16, w32, w64, int_wrap, int_rem_euclid, int_shr, cast_unsigned, cast_signed}

-- iadd, isub, imul, ineg
unfoldable pub add32 : ℤ → ℤ → ℤ
add32 a b = int_wrap w32 (a +ℤ b)

unfoldable pub sub32 : ℤ → ℤ → ℤ
sub32 a b = int_wrap w32 (a -ℤ b)

unfoldable pub mul32 : ℤ → ℤ → ℤ
mul32 a b = int_wrap w32 (a *ℤ b)

unfoldable pub neg32 : ℤ → ℤ
neg32 a = int_wrap w32 (neg_ℤ a)

-- idiv, irem: the quotient is rounded toward zero
unfoldable pub div32 : ℤ → ℤ → ℤ
div32 a b = int_wrap w32 (int_div a b)

unfoldable pub rem32 : ℤ → ℤ → ℤ
rem32 a b = int_rem a b

-- how far a shift goes: the low 5 bits of its second operand, or 6
abbrev pub distance32 : ℤ → ℕ
distance32 b = cast_unsigned w32 b % 32

abbrev pub distance64 : ℤ → ℕ
distance64 b = cast_unsigned w32 b % 64

-- ishl multiplies by a power of two, ishr divides by it and rounds down, iushr divides the bits as a number without sign
unfoldable pub shl32 : ℤ → ℤ → ℤ
shl32 a b = int_wrap w32 (a *ℤ pos (2 ^ distance32 b))

unfoldable pub shr32 : ℤ → ℤ → ℤ
shr32 a b = int_shr a (distance32 b)

unfoldable pub ushr32 : ℤ → ℤ → ℤ
ushr32 a b = cast_signed w32 (cast_unsigned w32 a / 2 ^ distance32 b)

-- ladd, lsub, lmul, lneg
unfoldable pub add64 : ℤ → ℤ → ℤ
add64 a b = int_wrap w64 (a +ℤ b)

unfoldable pub sub64 : ℤ → ℤ → ℤ
sub64 a b = int_wrap w64 (a -ℤ b)

unfoldable pub mul64 : ℤ → ℤ → ℤ
mul64 a b = int_wrap w64 (a *ℤ b)

unfoldable pub neg64 : ℤ → ℤ
neg64 a = int_wrap w64 (neg_ℤ a)

-- ldiv, lrem
unfoldable pub div64 : ℤ → ℤ → ℤ
div64 a b = int_wrap w64 (int_div a b)

unfoldable pub rem64 : ℤ → ℤ → ℤ
rem64 a b = int_rem a b

-- lshl, lshr, lushr
unfoldable pub shl64 : ℤ → ℤ → ℤ
shl64 a b = int_wrap w64 (a *ℤ pos (2 ^ distance64 b))

unfoldable pub shr64 : ℤ → ℤ → ℤ
shr64 a b = int_shr a (distance64 b)

unfoldable pub ushr64 : ℤ → ℤ → ℤ
ushr64 a b = cast_signed w64 (cast_unsigned w64 a / 2 ^ distance64 b)

-- i2l
unfoldable pub i2l : ℤ → ℤ
i2l a = a

-- l2i, i2b, i2s keep the low bits, with sign; i2c keeps 16 of them without sign
unfoldable pub l2i : ℤ → ℤ
l2i a = int_wrap w32 a

unfoldable pub i2b : ℤ → ℤ
i2b a = int_wrap w8 a

unfoldable pub i2s : ℤ → ℤ
i2s a = int_wrap w16 a

unfoldable pub i2c : ℤ → ℤ
i2c a = int_rem_euclid a (pos (2 ^ 16))

-- lcmp
unfoldable pub lcmp : ℤ → ℤ → ℤ
lcmp a b = if int_lt b a then pos 1 else (if int_lt a b then negsuc 0 else pos 0)
