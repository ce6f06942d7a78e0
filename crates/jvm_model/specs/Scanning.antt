-- How far the first type of a descriptor goes.
use Rattle.std.specs.Prelude.{◌≡◌, ◌<◌, ℕ, zero, suc, List, [], ◌∷◌, length, drop, Bool, true, false, nat_eq}
use Rattle.jvm_model.specs.Descriptors.{at_type, types_in, past_types}

-- the units of a type, of which those of a class's name may have begun; [ is 91, L is 76 and ; is 59
abbrev pub type_length : Bool → List ℕ → ℕ
type_length in_name [] = 0
type_length true (u ∷ us) = elim (nat_eq u 59) [ true ↦ suc zero | false ↦ suc (type_length true us) ]
type_length false (u ∷ us) = elim (nat_eq u 91) [
  | true ↦ suc (type_length false us)
  | false ↦ elim (nat_eq u 76) [ true ↦ suc (type_length true us) | false ↦ suc zero ]
]

-- a type stands first, and this is what comes after it
pub record SplitsType (us one rest : List ℕ) : Type 0 where
  pub types : types_in at_type us ≡ one ∷ types_in at_type rest
  pub past : past_types at_type us ≡ past_types at_type rest
  pub shorter : length rest < length us

-- the parameters have ended
pub record EndsTypes (us : List ℕ) : Type 0 where
  pub types : types_in at_type us ≡ []
  pub past : past_types at_type us ≡ drop 1 us
