-- The constant pool (JVMS 4.4): how it is read, and the first fault.
use Rattle.std.specs.Prelude.{ℕ, zero, suc, ◌+◌, ◌-◌, List, [], ◌∷◌, length, Option, Some, None, Result, Ok, Err, Bool, true, false, nat_lt, nat_le, ◌==◌, ◌&&◌, ◌||◌, slice_index_or, if◌then◌else◌, ◌<◌, ◌≤◌, ◌≡◌}
use Rattle.std.specs.Int.{w8, w16, w32, w64, cast_signed}
use Rattle.et_base.specs.{Utf.utf, UtfReading.units_read, Answers.◌>>=◌}
use Rattle.class_pool.specs.declared.fault.Fault.{Fault, TheVariants.BadTag, TheVariants.BadIndex, TheVariants.BadUtf, TheVariants.BadDescriptor}
use Rattle.class_pool.specs.{declared.pool.Entry.Entry, Reading.number_at, Reading.run_at, Loops.counted}
use Rattle.class_pool.specs.declared.pool.Entry.TheVariants.{Utf8, Integer, Float, Long, Double, Class, Str, Field, Method, InterfaceMethod, NameAndType, MethodHandle, MethodType, InvokeDynamic}
use Rattle.et_base.specs.Names.{is_unqualified, is_method_name, is_class_entry_name, is_field_descriptor, is_method_descriptor}

-- ---- entries

-- the units of a run at which so much is left; the place of a fault is that of the first bad group
abbrev pub units_or : ℕ → Result (List ℕ) ℕ → Result (List ℕ) Fault
units_or left (Ok units) = Ok units
units_or left (Err at) = Err (BadUtf (left - at))

-- the content of a Utf8 entry: a length, and a run of modified UTF-8 (JVMS 4.4.7)
unfoldable pub text_at : List ℕ → Result (Entry × List ℕ) Fault
text_at bytes = do
  n ← number_at w16 bytes
  run ← run_at n.0 n.1
  units ← units_or (length n.1) (units_read run.0)
  Ok (Utf8 units, run.1)

-- an entry of one index
abbrev pub single_at : (ℕ → Entry) → List ℕ → Result (Entry × List ℕ) Fault
single_at made bytes = do
  a ← number_at w16 bytes
  Ok (made a.0, a.1)

-- an entry of two indices
abbrev pub twin_at : (ℕ → ℕ → Entry) → List ℕ → Result (Entry × List ℕ) Fault
twin_at made bytes = do
  a ← number_at w16 bytes
  b ← number_at w16 a.1
  Ok (made a.0 b.0, b.1)

-- the content of a MethodHandle entry (JVMS 4.4.8)
unfoldable pub handle_at : List ℕ → Result (Entry × List ℕ) Fault
handle_at bytes = do
  kind ← number_at w8 bytes
  index ← number_at w16 kind.1
  Ok (MethodHandle kind.0 index.0, index.1)

-- The content behind the tag of an entry of two indices. A tag that is none of these is wrong; left is what is left at the tag.
unfoldable pub twins_at : ℕ → ℕ → List ℕ → Result (Entry × List ℕ) Fault
twins_at tag left bytes = if tag == 9 then twin_at Field bytes
    else if tag == 10 then twin_at Method bytes
    else if tag == 11 then twin_at InterfaceMethod bytes
    else if tag == 12 then twin_at NameAndType bytes
    else if tag == 18 then twin_at InvokeDynamic bytes
    else Err (BadTag left tag)

-- the content behind the tag of an entry of one index, or of two
unfoldable pub singles_at : ℕ → ℕ → List ℕ → Result (Entry × List ℕ) Fault
singles_at tag left bytes = if tag == 7 then single_at Class bytes
    else if tag == 8 then single_at Str bytes
    else if tag == 16 then single_at MethodType bytes
    else twins_at tag left bytes

-- The content behind the tag of a number, or of an entry of indices. A long or a double has a slot after its own, so it can't stand in the last one.
unfoldable pub numbers_at : ℕ → ℕ → ℕ → List ℕ → Result (Entry × List ℕ) Fault
numbers_at tag slots left bytes = if tag == 3 then (do
  n ← number_at w32 bytes
  Ok (Integer (cast_signed w32 n.0), n.1))
    else if tag == 4 then (do
      n ← number_at w32 bytes
      Ok (Float n.0, n.1))
    else if tag == 5 && nat_lt 0 slots then (do
      n ← number_at w64 bytes
      Ok (Long (cast_signed w64 n.0), n.1))
    else if tag == 6 && nat_lt 0 slots then (do
      n ← number_at w64 bytes
      Ok (Double n.0, n.1))
    else singles_at tag left bytes

-- the content behind any tag (JVMS 4.4)
unfoldable pub body_at : ℕ → ℕ → ℕ → List ℕ → Result (Entry × List ℕ) Fault
body_at tag slots left bytes = if tag == 1 then text_at bytes
    else if tag == 15 then handle_at bytes
    else numbers_at tag slots left bytes

-- an entry, when so many slots follow its own
unfoldable pub entry_at : ℕ → List ℕ → Result (Entry × List ℕ) Fault
entry_at slots bytes = number_at w8 bytes >>= λ tag. body_at tag.0 slots (length bytes) tag.1

-- ---- slots

-- A long or a double takes two slots (JVMS 4.4.5).
abbrev pub is_wide : Option Entry → Bool
is_wide (Some (Long n)) = true
is_wide (Some (Double n)) = true
is_wide _ = false

-- whether the slot after these is the second one of the last
abbrev pub is_second : List (Option Entry) → Bool
is_second [] = false
is_second (slot ∷ []) = is_wide slot
is_second (slot ∷ next ∷ slots) = is_second (next ∷ slots)

-- what stands in the slot after those before it, when so many follow
unfoldable pub slot_by : Bool → ℕ → List ℕ → Result (Option Entry × List ℕ) Fault
slot_by second slots bytes = if second then Ok (None, bytes) else (do
  entry ← entry_at slots bytes
  Ok (Some entry.0, entry.1))

abbrev pub slot_at : List (Option Entry) → ℕ → List ℕ → Result (Option Entry × List ℕ) Fault
slot_at before slots bytes = slot_by (is_second before) slots bytes

abbrev pub slots_at : ℕ → List ℕ → Result (List (Option Entry) × List ℕ) Fault
slots_at count bytes = counted slot_at [] (count - 1) bytes

-- the bytes that a slot takes
abbrev pub entry_len : Entry → ℕ
entry_len (Utf8 units) = 3 + length (utf units)
entry_len (Integer n) = 5
entry_len (Float n) = 5
entry_len (Long n) = 9
entry_len (Double n) = 9
entry_len (Class name) = 3
entry_len (Str text) = 3
entry_len (Field class pair) = 5
entry_len (Method class pair) = 5
entry_len (InterfaceMethod class pair) = 5
entry_len (NameAndType name descriptor) = 5
entry_len (MethodHandle kind index) = 4
entry_len (MethodType descriptor) = 3
entry_len (InvokeDynamic bootstrap pair) = 5

abbrev pub slot_len : Option Entry → ℕ
slot_len None = 0
slot_len (Some entry) = entry_len entry

-- ---- what an index names

-- the entry that an index names
abbrev pub entry_of : List (Option Entry) → ℕ → Option Entry
entry_of slots zero = None
entry_of slots (suc i) = slice_index_or slots i None

-- An index names an entry: it is neither 0 nor past the end, and the one before it names no long or double (JVMS 4.4.5).
pub record NamesEntry (slots : List (Option Entry)) (index : ℕ) : Type 0 where
  pub some : 0 < index
  pub within : index ≤ length slots
  pub first : is_wide (entry_of slots (index - 1)) ≡ false

abbrev pub is_text : Option Entry → Bool
is_text (Some (Utf8 units)) = true
is_text _ = false

abbrev pub is_class : Option Entry → Bool
is_class (Some (Class name)) = true
is_class _ = false

abbrev pub is_pair : Option Entry → Bool
is_pair (Some (NameAndType name descriptor)) = true
is_pair _ = false

-- the text that an entry is
abbrev pub text_of : Option Entry → Option (List ℕ)
text_of (Some (Utf8 units)) = Some units
text_of _ = None

-- the name of the class that an entry is
abbrev pub class_name_of : List (Option Entry) → Option Entry → Option (List ℕ)
class_name_of slots (Some (Class name)) = text_of (entry_of slots name)
class_name_of slots _ = None

-- ---- the first pass: the entries that entries name

-- whether a method handle of this kind may name this entry (JVMS 4.4.8)
abbrev pub is_handled : ℕ → Option Entry → Bool
is_handled kind (Some (Field class pair)) = nat_le 1 kind && nat_le kind 4
is_handled kind (Some (Method class pair)) = nat_le 5 kind && nat_le kind 8
is_handled kind (Some (InterfaceMethod class pair)) = kind == 6 || kind == 7 || kind == 9
is_handled kind _ = false

-- the offset in an entry of its first field that fails its test
abbrev pub wants_at : Bool → ℕ → Option ℕ → Option ℕ
wants_at test at rest = if test then rest else Some at

-- the offset in an entry of its first index that doesn't name an entry of a kind that is allowed there
abbrev pub wrong_index : List (Option Entry) → Option Entry → Option ℕ
wrong_index slots (Some (Class name)) = wants_at (is_text (entry_of slots name)) 1 None
wrong_index slots (Some (Str text)) = wants_at (is_text (entry_of slots text)) 1 None
wrong_index slots (Some (MethodType descriptor)) = wants_at (is_text (entry_of slots descriptor)) 1 None
wrong_index slots (Some (Field class pair)) = wants_at (is_class (entry_of slots class)) 1 (wants_at (is_pair (entry_of slots pair)) 3 None)
wrong_index slots (Some (Method class pair)) = wants_at (is_class (entry_of slots class)) 1 (wants_at (is_pair (entry_of slots pair)) 3 None)
wrong_index slots (Some (InterfaceMethod class pair)) = wants_at (is_class (entry_of slots class)) 1 (wants_at (is_pair (entry_of slots pair)) 3 None)
wrong_index slots (Some (NameAndType name descriptor)) = wants_at (is_text (entry_of slots name)) 1 (wants_at (is_text (entry_of slots descriptor)) 3 None)
wrong_index slots (Some (MethodHandle kind index)) = wants_at (is_handled kind (entry_of slots index)) 2 None
wrong_index slots (Some (InvokeDynamic bootstrap pair)) = wants_at (is_pair (entry_of slots pair)) 3 None
wrong_index slots _ = None

-- ---- the second pass: names and descriptors

-- a test of the text that an entry is
abbrev pub in_text : (List ℕ → Bool) → Option Entry → Bool
in_text test (Some (Utf8 units)) = test units
in_text test _ = false

-- a field's descriptor or a method's
abbrev pub is_descriptor : List ℕ → Bool
is_descriptor us = is_field_descriptor us || is_method_descriptor us

-- tests of the two texts that a NameAndType entry names
abbrev pub in_pair : (List ℕ → Bool) → (List ℕ → Bool) → List (Option Entry) → Option Entry → Bool
in_pair name_test descriptor_test slots (Some (NameAndType name descriptor)) = in_text name_test (entry_of slots name) && in_text descriptor_test (entry_of slots descriptor)
in_pair name_test descriptor_test slots _ = false

abbrev pub is_field_pair : List (Option Entry) → Option Entry → Bool
is_field_pair = in_pair is_unqualified is_field_descriptor

abbrev pub is_method_pair : List (Option Entry) → Option Entry → Bool
is_method_pair = in_pair is_method_name is_method_descriptor

-- the offset in an entry of its first index that names a name or descriptor in no form that is allowed there
abbrev pub wrong_name : List (Option Entry) → Option Entry → Option ℕ
wrong_name slots (Some (Class name)) = wants_at (in_text is_class_entry_name (entry_of slots name)) 1 None
wrong_name slots (Some (MethodType descriptor)) = wants_at (in_text is_method_descriptor (entry_of slots descriptor)) 1 None
wrong_name slots (Some (NameAndType name descriptor)) = wants_at (in_text is_unqualified (entry_of slots name)) 1 (wants_at (in_text is_descriptor (entry_of slots descriptor)) 3 None)
wrong_name slots (Some (Field class pair)) = wants_at (is_field_pair slots (entry_of slots pair)) 3 None
wrong_name slots (Some (Method class pair)) = wants_at (is_method_pair slots (entry_of slots pair)) 3 None
wrong_name slots (Some (InterfaceMethod class pair)) = wants_at (is_method_pair slots (entry_of slots pair)) 3 None
wrong_name slots _ = None

-- ---- passes, and the whole

-- what is left at the wrong field of the slot at hand, or what the rest of the pass finds
abbrev pub found_at : Option ℕ → ℕ → Option ℕ → Option ℕ
found_at (Some at) left rest = Some (left - at)
found_at None left rest = rest

-- a pass over slots at which so much is left: what is left at the first wrong field
abbrev pub pass : (Option Entry → Option ℕ) → ℕ → List (Option Entry) → Option ℕ
pass wrong left [] = None
pass wrong left (slot ∷ slots) = found_at (wrong slot) left (pass wrong (left - slot_len slot) slots)

-- nothing, unless a place was found
abbrev pub no_place : (ℕ → Fault) → Option ℕ → Result (Unit {0}) Fault
no_place fault None = Ok tt
no_place fault (Some left) = Err (fault left)

-- the two passes over slots at which so much is left
unfoldable pub indices_pass : List (Option Entry) → ℕ → Result (Unit {0}) Fault
indices_pass slots left = no_place BadIndex (pass (wrong_index slots) left slots)

unfoldable pub names_pass : List (Option Entry) → ℕ → Result (Unit {0}) Fault
names_pass slots left = no_place BadDescriptor (pass (wrong_name slots) left slots)

-- the whole pool, its two passes after it, and the bytes behind it
unfoldable pub pool_at : List ℕ → Result (List (Option Entry) × List ℕ) Fault
pool_at bytes = do
  count ← number_at w16 bytes
  slots ← slots_at count.0 count.1
  indices ← indices_pass slots.0 (length count.1)
  names ← names_pass slots.0 (length count.1)
  Ok slots
