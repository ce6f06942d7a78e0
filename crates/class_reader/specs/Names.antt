-- What an index of a class file must name, place by place.
use Rattle.std.specs.Prelude.{ℕ, ◌+◌, List, [], ◌∷◌, Option, Some, None, Bool, false, not, nat_le, ◌==◌, ◌&&◌, ◌||◌, codes, bit_and, if◌then◌else◌}
use Rattle.std.specs.Str.{bytes_eq}
use Rattle.class_pool.specs.{declared.pool.Entry.Entry, Pool.entry_of, Pool.in_text}
use Rattle.class_pool.specs.declared.pool.Entry.TheVariants.{Utf8, Integer, Float, Long, Double, Class, Str}
use Rattle.et_base.specs.Names.{is_unqualified, is_field_descriptor, argument_units}
use Rattle.et_base.specs.Names as names
use Rattle.class_reader.specs.declared.{parts.MemberPart.MemberPart, names.Form.Form}
use Rattle.class_reader.specs.declared.names.Form.TheVariants as form

-- whether an entry is this text
abbrev pub is_text_of : List ℕ → Option Entry → Bool
is_text_of text (Some (Utf8 units)) = bytes_eq units text
is_text_of text _ = false

-- the names of the attributes that are read (JVMS 4.7)
abbrev pub is_code : Option Entry → Bool
is_code entry = is_text_of (codes "Code") entry

abbrev pub is_constant_value : Option Entry → Bool
is_constant_value entry = is_text_of (codes "ConstantValue") entry

abbrev pub is_stack_map : Option Entry → Bool
is_stack_map entry = is_text_of (codes "StackMapTable") entry

-- whether the text begins with a bracket, as an array's name does (JVMS 4.4.1)
abbrev pub begins_array : Option Entry → Bool
begins_array (Some (Utf8 (u ∷ units))) = u == 91
begins_array _ = false

-- a class that is no array
abbrev pub is_own_class : List (Option Entry) → Option Entry → Bool
is_own_class slots (Some (Class name)) = not (begins_array (entry_of slots name))
is_own_class slots _ = false

-- a field's name and descriptor (JVMS 4.2.2 and 4.3.2)
abbrev pub is_field_name : Option Entry → Bool
is_field_name = in_text is_unqualified

abbrev pub is_field_type : Option Entry → Bool
is_field_type = in_text is_field_descriptor

-- a method's name and descriptor (JVMS 4.2.2 and 4.3.3)
abbrev pub is_method_name : Option Entry → Bool
is_method_name = in_text names.is_method_name

-- An instance method takes one argument unit more, for this; static is the flag 8 (JVMS 4.6).
abbrev pub own_units : ℕ → ℕ
own_units flags = if bit_and flags 8 == 0 then 1 else 0

-- the argument units are at most 255 (JVMS 4.3.3)
abbrev pub has_room : ℕ → Option ℕ → Bool
has_room own None = false
has_room own (Some units) = nat_le (own + units) 255

abbrev pub is_method_type : ℕ → Option Entry → Bool
is_method_type flags entry = in_text (λ us. has_room (own_units flags) (argument_units us)) entry

-- a name or a descriptor of this form
abbrev pub has_form : Form → Option Entry → Bool
has_form form.FieldName = is_field_name
has_form form.FieldType = is_field_type
has_form form.MethodName = is_method_name
has_form (form.MethodType flags) = is_method_type flags

-- a constant that fits a field's descriptor (JVMS table 4.7.2-A)
abbrev pub is_small : Option Entry → Bool
is_small descriptor = is_text_of (codes "I") descriptor || is_text_of (codes "S") descriptor || is_text_of (codes "C") descriptor || is_text_of (codes "B") descriptor || is_text_of (codes "Z") descriptor

abbrev pub fits_constant : Option Entry → Option Entry → Bool
fits_constant descriptor (Some (Integer n)) = is_small descriptor
fits_constant descriptor (Some (Float n)) = is_text_of (codes "F") descriptor
fits_constant descriptor (Some (Long n)) = is_text_of (codes "J") descriptor
fits_constant descriptor (Some (Double n)) = is_text_of (codes "D") descriptor
fits_constant descriptor (Some (Str text)) = is_text_of (codes "Ljava/lang/String;") descriptor
fits_constant descriptor _ = false

abbrev pub same_text : Option Entry → Option Entry → Bool
same_text (Some (Utf8 a)) (Some (Utf8 b)) = bytes_eq a b
same_text _ _ = false

-- whether a member of the same name and descriptor stands among these
abbrev pub is_repeated : List (Option Entry) → List MemberPart → ℕ → ℕ → Bool
is_repeated slots [] name descriptor = false
is_repeated slots (m ∷ before) name descriptor = same_text (entry_of slots m.name) (entry_of slots name) && same_text (entry_of slots m.descriptor) (entry_of slots descriptor) || is_repeated slots before name descriptor

-- whether a method's flags are such that it has code: it is neither abstract nor native (JVMS 4.7.3)
abbrev pub has_code : ℕ → Bool
has_code flags = bit_and flags 1280 == 0

-- whether code is there exactly where the flags ask for it
abbrev pub fits_flags : ℕ → Bool → Bool
fits_flags flags there = if has_code flags then there else not there
