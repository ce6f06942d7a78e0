-- Whether an instruction takes the pool entry, or the number, that it names.
use Rattle.std.specs.Prelude.{ℕ, ◌+◌, List, [], length, take_while, slice_index, unwrap_or, Option, Some, None, Bool, false, nat_lt, ◌==◌, ◌&&◌, ◌||◌, if◌then◌else◌}
use Rattle.class_pool.specs.{declared.pool.Entry.Entry, Pool.entry_of, Pool.text_of, Pool.class_name_of}
use Rattle.class_pool.specs.declared.pool.Entry.TheVariants.{Integer, Long, Class, Str, Field, Method, InterfaceMethod, NameAndType}
use Rattle.et_base.specs.Names.{argument_units}
use Rattle.code_decode.specs.declared.judging.{Fit.Fit, Fit.TheVariants.Right, Fit.TheVariants.Wrong, Fit.TheVariants.Foreign}
use Rattle.code_decode.specs.declared.opcodes.{Constant.Constant, Constant.TheVariants.Single, Constant.TheVariants.Double, Named.Named}
use Rattle.code_decode.specs.declared.opcodes.Named.TheVariants as named

-- the units of the text that an entry is
abbrev pub units_of : Option Entry → List ℕ
units_of entry = unwrap_or (text_of entry) []

-- the name of the class that an entry is
abbrev pub class_name : List (Option Entry) → Option Entry → List ℕ
class_name slots entry = unwrap_or (class_name_of slots entry) []

-- the dimensions of the array that a class's name names; 0 for a class that is no array
abbrev pub dimensions : List ℕ → ℕ
dimensions name = length (take_while (λ u. u == 91) name)

-- whether that is an array, of whatever dimensions, of float `F` or double `D`
abbrev pub is_real_array : List ℕ → Bool
is_real_array name = nat_lt 0 (dimensions name) && (slice_index name (dimensions name) == 70 || slice_index name (dimensions name) == 68)

-- arrays of float and double are outside of the profile
abbrev pub array_fit : List ℕ → Fit
array_fit name = if is_real_array name then Foreign else Right

-- an object is made of no array class (JVMS 6.5, new)
abbrev pub made_fit : List ℕ → Fit
made_fit name = if nat_lt 0 (dimensions name) then Wrong else Right

-- an array of these has at most 255 dimensions (JVMS 4.9.1)
abbrev pub element_fit : List ℕ → Fit
element_fit name = if is_real_array name then Foreign else if dimensions name == 255 then Wrong else Right

-- an array of arrays is made of an array class (JVMS 6.5, multianewarray)
abbrev pub nested_fit : List ℕ → Fit
nested_fit name = if dimensions name == 0 then Wrong else array_fit name

-- a member, by its class
abbrev pub member_fit : List (Option Entry) → ℕ → Fit
member_fit slots class = array_fit (class_name slots (entry_of slots class))

-- the entry that an instruction names, by JVMS 4.9.1
abbrev pub named_fit : Named → List (Option Entry) → Option Entry → Fit
named_fit named.Field slots (Some (Field class pair)) = member_fit slots class
named_fit named.Virtual slots (Some (Method class pair)) = member_fit slots class
named_fit named.Direct slots (Some (Method class pair)) = member_fit slots class
named_fit named.Direct slots (Some (InterfaceMethod class pair)) = member_fit slots class
named_fit named.Interface slots (Some (InterfaceMethod class pair)) = member_fit slots class
named_fit named.Made slots (Some (Class name)) = made_fit (units_of (entry_of slots name))
named_fit named.Element slots (Some (Class name)) = element_fit (units_of (entry_of slots name))
named_fit named.Tested slots (Some (Class name)) = array_fit (units_of (entry_of slots name))
named_fit named.Nested slots (Some (Class name)) = nested_fit (units_of (entry_of slots name))
named_fit _ slots _ = Wrong

-- the constant that is loaded: an index that names nothing is wrong, and so is a long by ldc and ldc_w,
-- and an int or a string by ldc2_w; a constant of another kind is outside of the profile
abbrev pub constant_fit : Constant → Option Entry → Fit
constant_fit _ None = Wrong
constant_fit Single (Some (Integer n)) = Right
constant_fit Single (Some (Str text)) = Right
constant_fit Single (Some (Long n)) = Wrong
constant_fit Double (Some (Long n)) = Right
constant_fit Double (Some (Integer n)) = Wrong
constant_fit Double (Some (Str text)) = Wrong
constant_fit _ (Some _) = Foreign

-- the kind of an array of numbers (JVMS table 6.5.newarray-A): boolean 4, char 5, byte 8, short 9, int 10
-- and long 11 are made; float 6 and double 7 are outside of the profile
abbrev pub kind_fit : ℕ → Fit
kind_fit kind = if kind == 4 || kind == 5 || kind == 8 || kind == 9 || kind == 10 || kind == 11 then Right else if kind == 6 || kind == 7 then Foreign else Wrong

-- how many units the arguments of an interface's method take; none for another entry
abbrev pub pair_units : List (Option Entry) → Option Entry → Option ℕ
pair_units slots (Some (NameAndType name descriptor)) = argument_units (units_of (entry_of slots descriptor))
pair_units slots _ = None

abbrev pub interface_units : List (Option Entry) → Option Entry → Option ℕ
interface_units slots (Some (InterfaceMethod class pair)) = pair_units slots (entry_of slots pair)
interface_units slots _ = None

-- whether a count is that of the arguments and the object itself (JVMS 6.5, invokeinterface)
abbrev pub counts_units : Option ℕ → ℕ → Bool
counts_units None count = false
counts_units (Some units) count = count == units + 1
