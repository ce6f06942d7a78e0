-- Values stored into or returned by a boolean, byte, char or short are narrowed (this project's): a boolean keeps the
-- lowest bit, the others the low bits as i2b, i2c and i2s do.
use Rattle.std.specs.Prelude.{ℕ, ℤ, List, [], ◌∷◌, cond, nat_eq, pos}
use Rattle.std.specs.Int.{int_rem_euclid}
use Rattle.jvm_model.specs.declared.values.{Value.Value, Value.TheVariants.Int}
use Rattle.et_base.specs.Numbers.{i2b, i2c, i2s}

-- by the first unit of the type's descriptor: Z, B, C, S
abbrev pub narrow_int : ℕ → ℤ → ℤ
narrow_int u n = cond (nat_eq u 90) (int_rem_euclid n (pos 2)) (cond (nat_eq u 66) (i2b n) (cond (nat_eq u 67) (i2c n) (cond (nat_eq u 83) (i2s n) n)))

unfoldable pub narrow : ℕ → Value → Value
narrow u (Int n) = Int (narrow_int u n)
narrow u v = v

-- by the descriptor
abbrev pub narrowed : List ℕ → Value → Value
narrowed [] v = v
narrowed (u ∷ us) v = narrow u v
