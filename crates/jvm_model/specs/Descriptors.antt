-- What a method's descriptor says (JVMS 4.3.3).
use Rattle.std.specs.Prelude.{ℕ, List, [], ◌∷◌, true, false, nat_eq}

-- where a reader of a descriptor stands
pub data Scan : Type 0 where
  -- before a type
  at_type : Scan
  -- before an array's element type
  in_array : Scan
  -- in a class's name
  in_name : Scan

-- a unit more before the first text
abbrev pub onto_first : ℕ → List (List ℕ) → List (List ℕ)
onto_first u [] = (u ∷ []) ∷ []
onto_first u (t ∷ ts) = (u ∷ t) ∷ ts

-- the types before the closing parenthesis, 41; [ is 91, L is 76 and ; is 59
abbrev pub types_in : Scan → List ℕ → List (List ℕ)
types_in s [] = []
types_in at_type (u ∷ us) = elim (nat_eq u 41) [
  | true ↦ []
  | false ↦
      elim (nat_eq u 91) [
        | true ↦ onto_first u (types_in in_array us)
        | false ↦
            elim (nat_eq u 76) [ true ↦ onto_first u (types_in in_name us) | false ↦ (u ∷ []) ∷ types_in at_type us ]
      ]
]
types_in in_array (u ∷ us) = elim (nat_eq u 91) [
  | true ↦ onto_first u (types_in in_array us)
  | false ↦
      elim (nat_eq u 76) [ true ↦ onto_first u (types_in in_name us) | false ↦ (u ∷ []) ∷ types_in at_type us ]
]
types_in in_name (u ∷ us) = elim (nat_eq u 59) [ true ↦ (u ∷ []) ∷ types_in at_type us | false ↦ onto_first u (types_in in_name us) ]

-- the descriptors of the parameter types
unfoldable pub parameters : List ℕ → List (List ℕ)
parameters [] = []
parameters (u ∷ us) = types_in at_type us

-- where a reader stands after a unit outside a class's name
abbrev pub scan_plain : ℕ → Scan
scan_plain u = elim (nat_eq u 91) [ true ↦ in_array | false ↦ elim (nat_eq u 76) [ true ↦ in_name | false ↦ at_type ] ]

-- where it stands after a unit of a class's name
abbrev pub scan_name : ℕ → Scan
scan_name u = elim (nat_eq u 59) [ true ↦ at_type | false ↦ in_name ]

-- what follows the parenthesis that closes the parameters: a class's name may hold one too
abbrev pub past_types : Scan → List ℕ → List ℕ
past_types s [] = []
past_types at_type (u ∷ us) = elim (nat_eq u 41) [ true ↦ us | false ↦ past_types (scan_plain u) us ]
past_types in_array (u ∷ us) = past_types (scan_plain u) us
past_types in_name (u ∷ us) = past_types (scan_name u) us

-- the descriptor of the return type, V of none
unfoldable pub return_type : List ℕ → List ℕ
return_type [] = []
return_type (u ∷ us) = past_types at_type us
