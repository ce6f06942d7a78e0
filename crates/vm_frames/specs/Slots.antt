-- Values that are kept as tags and bits.
use Rattle.std.specs.Prelude.{ℕ, List, [], ◌∷◌, ◌<◌, ◌^◌}
use Rattle.std.specs.Int.{w32, w64, cast_signed}
use Rattle.jvm_model.specs.declared.values.Value.{Value}
use Rattle.jvm_model.specs.declared.values.Value.TheVariants.{Int, Long, Null, Lit, Obj}
use Rattle.vm_frames.specs.declared.slots.Tag.{Tag}
use Rattle.vm_frames.specs.declared.slots.Tag.TheVariants.{OfInt, OfLong, OfNull, OfLit, OfObj}

-- the value of a tag and bits; an int and a long are kept in two's complement
abbrev pub value_of : Tag → ℕ → Value
value_of OfInt b = Int (cast_signed w32 b)
value_of OfLong b = Long (cast_signed w64 b)
value_of OfNull b = Null
value_of OfLit b = Lit b
value_of OfObj b = Obj b

abbrev pub Values : Type 0
Values = List Value

-- the values of tags and of as many bits; what is longer shows no more
abbrev pub values : List Tag → List ℕ → List Value
values [] bs = []
values (t ∷ ts) [] = []
values (t ∷ ts) (b ∷ bs) = value_of t b ∷ values ts bs

-- bits that a value of the tag may have: an int and a literal have 32
abbrev pub Fit : Tag → ℕ → Type 0
Fit OfInt b = b < 2 ^ 32
Fit OfLong b = Unit {0}
Fit OfNull b = Unit {0}
Fit OfLit b = b < 2 ^ 32
Fit OfObj b = Unit {0}

abbrev pub AreFit : List Tag → List ℕ → Type 0
AreFit [] bs = Unit {0}
AreFit (t ∷ ts) [] = Unit {0}
AreFit (t ∷ ts) (b ∷ bs) = Fit t b × AreFit ts bs

-- the value is an int
abbrev pub IsInt : Value → Type 0
IsInt (Int n) = Unit {0}
IsInt (Long n) = ⊥
IsInt Null = ⊥
IsInt (Lit n) = ⊥
IsInt (Obj o) = ⊥

-- the value is a long
abbrev pub IsLong : Value → Type 0
IsLong (Int n) = ⊥
IsLong (Long n) = Unit {0}
IsLong Null = ⊥
IsLong (Lit n) = ⊥
IsLong (Obj o) = ⊥
