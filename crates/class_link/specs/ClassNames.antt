-- Classes by their names: the built-in ones first, then those of the class files, each by its place (JVMS 4.2.1 and 4.4.1).
use Rattle.std.specs.Prelude.{ℕ, ◌-◌, List, [], ◌∷◌, ◌++◌, length, map, drop, take, position, unwrap_or, option_map, option_and_then, is_none, Option, Some, None, cond, nat_le, ◌==◌, if◌then◌else◌}
use Rattle.class_pool.specs.{declared.pool.Entry.Entry, Pool.entry_of, Pool.text_of, Pool.class_name_of}
use Rattle.class_reader.specs.declared.parts.ClassParts.{ClassParts}
use Rattle.code_decode.specs.Judging.{dimensions}
use Rattle.et_base.specs.Names.{starts_array}
use Rattle.jvm_model.specs.{declared.values.Base.Base, declared.values.Kind.Kind, Library.builtin_classes}
use Rattle.jvm_model.specs.declared.values.Base.TheVariants as base
use Rattle.jvm_model.specs.declared.values.Kind.TheVariants as kind
use Rattle.std.specs.Str.{bytes_eq}

-- the text that an index names
abbrev pub text_at : List (Option Entry) → ℕ → List ℕ
text_at slots i = unwrap_or (text_of (entry_of slots i)) []

-- the name of the Class entry that an index names
abbrev pub name_at : List (Option Entry) → ℕ → List ℕ
name_at slots i = unwrap_or (class_name_of slots (entry_of slots i)) []

abbrev pub own_name : ClassParts → List ℕ
own_name c = name_at c.pool c.this_class

-- the names of all classes, in the order of their numbers
unfoldable pub all_names : List ClassParts → List (List ℕ)
all_names cs = map (λ c. c.name) builtin_classes ++ map own_name cs

abbrev pub class_number : List (List ℕ) → List ℕ → Option ℕ
class_number names name = position (bytes_eq name) names

-- the same, 0 where there is none
abbrev pub number_or_first : List (List ℕ) → List ℕ → ℕ
number_or_first names name = unwrap_or (class_number names name) 0

-- a class's name without the L before and the semicolon behind it
abbrev pub within_type : List ℕ → List ℕ
within_type us = take (length us - 1) us

-- the class that an array's element type, which is no array, names
abbrev pub element_class : List ℕ → Option (List ℕ)
element_class [] = None
element_class (u ∷ us) = if u == 76 then Some (within_type us) else None

-- the class that the name of a Class entry needs: the class itself, or the innermost element class of an array; an
-- array of numbers needs none
unfoldable pub needed_class : List ℕ → Option (List ℕ)
needed_class name = cond (starts_array name) (element_class (drop (dimensions name) name)) (Some name)

-- the class that is needed, where it isn't there
unfoldable pub missing : List (List ℕ) → List ℕ → Option (List ℕ)
missing names name = option_and_then (λ needed. cond (is_none (class_number names needed)) (Some needed) None) (needed_class name)

-- the innermost element type of an array, by its descriptor; none for floats and doubles
abbrev pub base_of : List (List ℕ) → List ℕ → Option Base
base_of names [] = None
base_of names (u ∷ us) = if u == 90 then Some base.Boolean
    else if u == 66 then Some base.Byte
    else if u == 67 then Some base.Char
    else if u == 83 then Some base.Short
    else if u == 73 then Some base.Int
    else if u == 74 then Some base.Long
    else if u == 76 then option_map (λ c. base.Class c) (class_number names (within_type us))
    else None

-- an array type, which has at most 255 dimensions (JVMS 4.3.2)
abbrev pub array_kind : List (List ℕ) → List ℕ → Option Kind
array_kind names name = cond (nat_le (dimensions name) 255)
    (option_map (λ b. kind.Array (dimensions name) b) (base_of names (drop (dimensions name) name)))
    None

-- the class or array type that a Class entry's name stands for
unfoldable pub kind_of : List (List ℕ) → List ℕ → Option Kind
kind_of names name = cond (starts_array name)
    (array_kind names name)
    (option_map (λ c. kind.Class c) (class_number names name))
