-- Names and descriptors, as lists of code units (JVMS 4.2 and 4.3).
use Rattle.std.specs.Prelude.{ℕ, zero, suc, ◌+◌, List, [], ◌∷◌, length, take, drop, Option, Some, None, Bool, true, false, not, nat_lt, nat_le, position, option_map, option_and_then, is_some, ◌==◌, ◌&&◌, ◌||◌, if◌then◌else◌}
use Rattle.std.specs.{List.list_all, Str.bytes_eq}

-- ---- names

-- a unit that any name may have: none of . ; [ /
abbrev pub is_plain : ℕ → Bool
is_plain u = not (u == 46 || u == 59 || u == 91 || u == 47)

-- An unqualified name (JVMS 4.2.2): one unit at least, each of them plain.
abbrev pub is_unqualified : List ℕ → Bool
is_unqualified us = nat_lt 0 (length us) && list_all is_plain us

-- <init> or <clinit> (JVMS 2.9)
abbrev pub is_special : List ℕ → Bool
is_special us = bytes_eq us (60 ∷ 105 ∷ 110 ∷ 105 ∷ 116 ∷ 62 ∷ []) || bytes_eq us (60 ∷ 99 ∷ 108 ∷ 105 ∷ 110 ∷ 105 ∷ 116 ∷ 62 ∷ [])

-- neither < nor >
abbrev pub is_unpointed : ℕ → Bool
is_unpointed u = not (u == 60 || u == 62)

-- A method's name (JVMS 4.2.2): special, or unqualified without < and >.
abbrev pub is_method_name : List ℕ → Bool
is_method_name us = is_special us || (is_unqualified us && list_all is_unpointed us)

-- one more unit in front of the first part
abbrev pub grown : ℕ → List (List ℕ) → List (List ℕ)
grown u [] = (u ∷ []) ∷ []
grown u (part ∷ parts) = (u ∷ part) ∷ parts

-- what stands before, between and after the slashes
abbrev pub parts_of : List ℕ → List (List ℕ)
parts_of [] = [] ∷ []
parts_of (u ∷ us) = if u == 47 then [] ∷ parts_of us else grown u (parts_of us)

-- A class or interface name in internal form (JVMS 4.2.1): unqualified names, joined by slashes.
unfoldable pub is_class_name : List ℕ → Bool
is_class_name us = list_all is_unqualified (parts_of us)

-- ---- descriptors

-- a base type (JVMS 4.3.2): one of B C D F I J S Z
abbrev pub is_base : ℕ → Bool
is_base u = u == 66 || u == 67 || u == 68 || u == 70 || u == 73 || u == 74 || u == 83 || u == 90

-- what follows a class name and its semicolon
unfoldable pub after_class : List ℕ → Option (List ℕ)
after_class us = option_and_then (λ n. if is_class_name (take n us) then Some (drop (n + 1) us) else None) (position (λ u. u == 59) us)

-- what follows a type that is no array: a base type, or L, a class name and a semicolon
unfoldable pub after_element : List ℕ → Option (List ℕ)
after_element [] = None
after_element (u ∷ us) = if is_base u then Some us else if u == 76 then after_class us else None

-- What follows a field type (JVMS 4.3.2): at most 255 brackets [, and a type that is no array.
unfoldable pub after_type : List ℕ → Option (List ℕ)
after_type us = option_and_then (λ n. if nat_le n 255 then after_element (drop n us) else None) (position (λ u. not (u == 91)) us)

-- something was read, and nothing follows it
abbrev pub ends : Option (List ℕ) → Bool
ends (Some []) = true
ends _ = false

-- a field descriptor (JVMS 4.3.2)
unfoldable pub is_field_descriptor : List ℕ → Bool
is_field_descriptor us = ends (after_type us)

abbrev pub starts_array : List ℕ → Bool
starts_array [] = false
starts_array (u ∷ us) = u == 91

-- A Class entry names a class or interface, or an array type by its descriptor (JVMS 4.4.1).
unfoldable pub is_class_entry_name : List ℕ → Bool
is_class_entry_name us = is_class_name us || (starts_array us && is_field_descriptor us)

-- A long or double takes two units of the arguments, every other type one (JVMS 4.3.3).
abbrev pub units_of_type : List ℕ → ℕ
units_of_type [] = 1
units_of_type (u ∷ us) = if u == 74 || u == 68 then 2 else 1

-- one more argument type: how many units the arguments take with it, and what follows; there may be 255 units in all (JVMS 4.3.3)
unfoldable pub argument : ℕ → List ℕ → Option (ℕ × List ℕ)
argument so_far us = if nat_lt 255 (so_far + units_of_type us) then None else option_map (λ rest. (so_far + units_of_type us, rest)) (after_type us)

-- what follows ) at the front
abbrev pub after_close : List ℕ → Option (List ℕ)
after_close [] = None
after_close (u ∷ us) = if u == 41 then Some us else None

-- all arguments, where ) stands at the front
abbrev pub closed : ℕ → Option (List ℕ) → Option (ℕ × List ℕ) → Option (ℕ × List ℕ)
closed so_far (Some rest) more = Some (so_far, rest)
closed so_far None more = more

-- fewer than n argument types and ): how many units they take beside those so far, and what follows
unfoldable pub arguments : ℕ → ℕ → List ℕ → Option (ℕ × List ℕ)
arguments zero so_far us = None
arguments (suc n) so_far us = closed so_far (after_close us) (option_and_then (λ x. arguments n x.0 x.1) (argument so_far us))

-- V, or a field type
abbrev pub is_return : List ℕ → Bool
is_return us = bytes_eq us (86 ∷ []) || is_field_descriptor us

-- The argument units of a method descriptor (JVMS 4.3.3): (, the argument types, ) and what is returned.
unfoldable pub argument_units : List ℕ → Option ℕ
argument_units [] = None
argument_units (u ∷ us) = if u == 40 then option_and_then (λ x. if is_return x.1 then Some x.0 else None) (arguments (length us) 0 us) else None

-- a method descriptor
abbrev pub is_method_descriptor : List ℕ → Bool
is_method_descriptor us = is_some (argument_units us)
