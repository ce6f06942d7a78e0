-- Modified UTF-8 (JVMS 4.4.7): each code unit of 16 bits is a group of one to three bytes, the shortest that has room for it, and 0 has two.
use Rattle.std.specs.Prelude.{◌≡◌, ℕ, ◌+◌, ◌/◌, ◌%◌, ◌^◌, ◌<◌, List, [], ◌∷◌, ◌++◌, length, Bool, nat_lt, nat_le, ◌&&◌, if◌then◌else◌, All}
use Rattle.std.specs.List.{flat_map}
use Rattle.et_base.specs.declared.utf.{UtfFault.UtfFault, UtfFault.TheVariants.BadUtf, UtfFault.TheVariants.NoMemory}

abbrev pub IsUnit : ℕ → Type 0
IsUnit u = u < 2 ^ 16

abbrev pub IsUnits : List ℕ → Type 0
IsUnits us = All IsUnit us

-- a byte that is a group of its own, and the unit that it stands for
abbrev pub is_one : ℕ → Bool
is_one u = nat_le 1 u && nat_lt u 128

-- the bytes of one unit
unfoldable pub group : ℕ → List ℕ
group u = if is_one u then u ∷ []
    else (if nat_lt u 2048 then (192 + u / 64) ∷ (128 + u % 64) ∷ []
    else (224 + u / 4096) ∷ (128 + u / 64 % 64) ∷ (128 + u % 64) ∷ [])

-- the bytes of units, one group after the other
abbrev pub utf : List ℕ → List ℕ
utf us = flat_map group us

-- No unit's group stands at the front of these bytes, of which there are some: the first group is wrong or cut.
pub record StartsBadly (bytes : List ℕ) : Type 0 where
  pub some : 0 < length bytes
  pub bad : (u : ℕ) (rest : List ℕ) → IsUnit u → bytes ≡ group u ++ rest → ⊥

-- The first bad group begins at this offset: groups of units take up the bytes before it.
pub record IsFirstBad (bytes : List ℕ) (at : ℕ) : Type 0 where
  pub before : List ℕ
  pub rest : List ℕ
  pub parts : bytes ≡ utf before ++ rest
  pub units : IsUnits before
  pub offset : length (utf before) ≡ at
  pub wrong : StartsBadly rest

-- why no units were read; nothing is said of want of memory
abbrev pub ExplainsUtf : List ℕ → UtfFault → Type 0
ExplainsUtf bytes (BadUtf at) = IsFirstBad bytes at
ExplainsUtf bytes NoMemory = Unit {0}
