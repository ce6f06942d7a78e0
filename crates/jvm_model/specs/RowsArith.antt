-- Whole-number arithmetic (JVMS 6.5, under each instruction's name): no touch, no cost besides 1.
use Rattle.std.specs.Prelude.{ℤ, ◌∷◌, Bool, true, false, cond, slice_get, pos, Option, Some, None, ℕ}
use Rattle.std.specs.Ordering.{int_eq}
use Rattle.std.specs.Int.{w32, w64, int_bit_and, int_bit_or, int_bit_xor}
use Rattle.et_base.specs.Numbers.{add32, sub32, mul32, div32, rem32, neg32, shl32, shr32, ushr32, add64, sub64, mul64, div64, rem64, neg64, shl64, shr64, ushr64, i2l, l2i, i2b, i2c, i2s, lcmp}
use Rattle.jvm_model.specs.declared.values.{Value.Value, Value.TheVariants.Int, Value.TheVariants.Long}
use Rattle.jvm_model.specs.declared.{instr.Op.Op, instr.Conv.Conv, instr.Instr.Instr, program.Program.Program}
use Rattle.jvm_model.specs.declared.instr.Op.TheVariants.{Add, Sub, Mul, Div, Rem, Shl, Shr, Ushr, And, Or, Xor}
use Rattle.jvm_model.specs.declared.instr.Conv.TheVariants as conv
use Rattle.jvm_model.specs.declared.instr.Instr.TheVariants as form
use Rattle.jvm_model.specs.{Access.Access, Builtin.arithmetic_exception, Entries.Entries, Entries.with_stack, RowsMoves.stored}
use Rattle.jvm_model.specs.Rows.{Answer, none_here, faults, goes_on, popping, on_int, on_long}

-- what a form on two ints gives, the upper operand second
abbrev pub of_ints : Op → ℤ → ℤ → ℤ
of_ints Add a b = add32 a b
of_ints Sub a b = sub32 a b
of_ints Mul a b = mul32 a b
of_ints Div a b = div32 a b
of_ints Rem a b = rem32 a b
of_ints Shl a b = shl32 a b
of_ints Shr a b = shr32 a b
of_ints Ushr a b = ushr32 a b
of_ints And a b = int_bit_and w32 a b
of_ints Or a b = int_bit_or w32 a b
of_ints Xor a b = int_bit_xor w32 a b

-- the same on longs; the distance of a shift is an int
abbrev pub of_longs : Op → ℤ → ℤ → ℤ
of_longs Add a b = add64 a b
of_longs Sub a b = sub64 a b
of_longs Mul a b = mul64 a b
of_longs Div a b = div64 a b
of_longs Rem a b = rem64 a b
of_longs Shl a b = shl64 a b
of_longs Shr a b = shr64 a b
of_longs Ushr a b = ushr64 a b
of_longs And a b = int_bit_and w64 a b
of_longs Or a b = int_bit_or w64 a b
of_longs Xor a b = int_bit_xor w64 a b

abbrev pub divides : Op → Bool
divides Div = true
divides Rem = true
divides _ = false

abbrev pub shifts : Op → Bool
shifts Shl = true
shifts Shr = true
shifts Ushr = true
shifts _ = false

-- division and remainder by 0 throw
abbrev pub unless_zero : Op → ℤ → Entries → Access (Answer Entries) → Access (Answer Entries)
unless_zero x b s k = cond (divides x) (cond (int_eq b (pos 0)) (faults arithmetic_exception s) k) k

abbrev pub two_ints : Program → Op → Entries → Access (Answer Entries)
two_ints p x s = popping s.top.stack (λ v vs. popping vs (λ u rest. on_int v (λ b. on_int u (λ a.
    unless_zero x b (with_stack s rest) (goes_on p s (Int (of_ints x a b) ∷ rest))))))

abbrev pub two_longs : Program → Op → Entries → Access (Answer Entries)
two_longs p x s = popping s.top.stack (λ v vs. popping vs (λ u rest. on_long v (λ b. on_long u (λ a.
    unless_zero x b (with_stack s rest) (goes_on p s (Long (of_longs x a b) ∷ rest))))))

abbrev pub long_by_int : Program → Op → Entries → Access (Answer Entries)
long_by_int p x s = popping s.top.stack (λ v vs. popping vs (λ u rest. on_int v (λ b. on_long u (λ a. goes_on p s (Long (of_longs x a b) ∷ rest)))))

abbrev pub converted : Program → Conv → Entries → Access (Answer Entries)
converted p conv.I2l s = popping s.top.stack (λ v vs. on_int v (λ a. goes_on p s (Long (i2l a) ∷ vs)))
converted p conv.L2i s = popping s.top.stack (λ v vs. on_long v (λ a. goes_on p s (Int (l2i a) ∷ vs)))
converted p conv.I2b s = popping s.top.stack (λ v vs. on_int v (λ a. goes_on p s (Int (i2b a) ∷ vs)))
converted p conv.I2c s = popping s.top.stack (λ v vs. on_int v (λ a. goes_on p s (Int (i2c a) ∷ vs)))
converted p conv.I2s s = popping s.top.stack (λ v vs. on_int v (λ a. goes_on p s (Int (i2s a) ∷ vs)))

abbrev pub increased : Program → ℕ → ℤ → Entries → Option Value → Access (Answer Entries)
increased p n by s None = none_here
increased p n by s (Some v) = on_int v (λ a. stored p s n (Int (add32 a by)) s.top.stack)

unfoldable pub row_arith : Program → Instr → Entries → Access (Answer Entries)
row_arith p (form.Binary x false) s = two_ints p x s
row_arith p (form.Binary x true) s = cond (shifts x) (long_by_int p x s) (two_longs p x s)
row_arith p (form.Neg false) s = popping s.top.stack (λ v vs. on_int v (λ a. goes_on p s (Int (neg32 a) ∷ vs)))
row_arith p (form.Neg true) s = popping s.top.stack (λ v vs. on_long v (λ a. goes_on p s (Long (neg64 a) ∷ vs)))
row_arith p (form.Inc n by) s = increased p n by s (slice_get s.top.locals n)
row_arith p (form.Convert x) s = converted p x s
row_arith p form.Compare s = popping s.top.stack (λ v vs. popping vs (λ u rest. on_long v (λ b. on_long u (λ a. goes_on p s (Int (lcmp a b) ∷ rest)))))
row_arith p _ s = none_here
