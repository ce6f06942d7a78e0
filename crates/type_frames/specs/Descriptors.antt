-- The types that a descriptor names (JVMS 4.3), by units: ( ) are 40 and 41, ; is 59, [ is 91, and the letters are
-- B 66, C 67, D 68, F 70, I 73, J 74, L 76, S 83, V 86, Z 90.
use Rattle.std.specs.Prelude.{ℕ, List, [], ◌∷◌, ◌++◌, length, take, replicate, Bool, true, false, ◌||◌, nat_eq, ◌-◌}
use Rattle.std.specs.List.{list_any}
use Rattle.jvm_model.specs.declared.{values.Kind.Kind, values.Base.Base, program.Program.Program}
use Rattle.jvm_model.specs.declared.values.Kind.TheVariants as kind
use Rattle.jvm_model.specs.declared.values.Base.TheVariants as base
use Rattle.jvm_model.specs.{Classes.class_at, Descriptors.parameters, Descriptors.return_type}
use Rattle.type_frames.specs.declared.vtype.{VType.VType, VType.TheVariants.Top, VType.TheVariants.Int, VType.TheVariants.Long, VType.TheVariants.Object}

-- a class's name, from what follows the L of its text
abbrev pub class_name : List ℕ → List ℕ
class_name us = take (length us - 1) us

-- The type that a text says: one, or none for void. A float or a double, which this project doesn't serve, is what
-- nothing can use, in one place or two.
abbrev pub types_of : List ℕ → List VType
types_of [] = []
types_of (u ∷ us) = elim (nat_eq u 74) [
  | true ↦ Long ∷ []
  | false ↦
      elim (nat_eq u 76) [
        | true ↦ Object (class_name us) ∷ []
        | false ↦
            elim (nat_eq u 91) [
              | true ↦ Object (u ∷ us) ∷ []
              | false ↦
                  elim (nat_eq u 86) [
                    | true ↦ []
                    | false ↦
                        elim (nat_eq u 70) [
                          | true ↦ Top ∷ []
                          | false ↦
                              elim (nat_eq u 68) [ true ↦ Top ∷ Top ∷ [] | false ↦ Int ∷ [] ]
                        ]
                  ]
            ]
      ]
]

-- the letter of the innermost element type of a type
abbrev pub element_letter : List ℕ → ℕ
element_letter [] = 86
element_letter (u ∷ us) = elim (nat_eq u 91) [ true ↦ element_letter us | false ↦ u ]

-- a float or a double, or an array of them
abbrev pub is_float : List ℕ → Bool
is_float t = nat_eq (element_letter t) 70 || nat_eq (element_letter t) 68

-- whether a method's descriptor names one
abbrev pub has_float : List ℕ → Bool
has_float d = list_any is_float (parameters d) || is_float (return_type d)

-- the name of a class by its number
abbrev pub name_of : Program → ℕ → List ℕ
name_of p c = (class_at p c).name

-- the descriptor of an element type
abbrev pub base_text : Program → Base → List ℕ
base_text p base.Boolean = 90 ∷ []
base_text p base.Byte = 66 ∷ []
base_text p base.Char = 67 ∷ []
base_text p base.Short = 83 ∷ []
base_text p base.Int = 73 ∷ []
base_text p base.Long = 74 ∷ []
base_text p (base.Class c) = 76 ∷ (name_of p c ++ 59 ∷ [])

-- the name of a class, or the descriptor of an array
abbrev pub kind_name : Program → Kind → List ℕ
kind_name p (kind.Class c) = name_of p c
kind_name p (kind.Array dims b) = replicate dims 91 ++ base_text p b
