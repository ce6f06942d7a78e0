-- Which bytes spell which pool (JVMS 4.4).
use Rattle.std.specs.Prelude.{◌≡◌, ◌<◌, ◌^◌, ℕ, ◌+◌, ◌-◌, List, [], ◌∷◌, ◌++◌, length, Option, Some, None, true, false, All}
use Rattle.std.specs.{List.flat_map, Int.RustNames.FitsSigned}
use Rattle.std.specs.Int.{w8, w16, w32, w64, to_be_bytes, cast_unsigned}
use Rattle.et_base.specs.Utf.{utf, IsUnits}
use Rattle.class_pool.specs.{declared.pool.Entry.Entry, Grammar.Joined, Pool.is_second, Pool.is_wide, Pool.wrong_index, Pool.wrong_name}
use Rattle.class_pool.specs.declared.pool.Entry.TheVariants.{Utf8, Integer, Float, Long, Double, Class, Str, Field, Method, InterfaceMethod, NameAndType, MethodHandle, MethodType, InvokeDynamic}

-- a tag and two indices
abbrev pub twin_bytes : ℕ → ℕ → ℕ → List ℕ
twin_bytes tag a b = tag ∷ to_be_bytes w16 a ++ to_be_bytes w16 b

-- a tag and what follows it
abbrev pub entry_bytes : Entry → List ℕ
entry_bytes (Utf8 units) = 1 ∷ to_be_bytes w16 (length (utf units)) ++ utf units
entry_bytes (Integer n) = 3 ∷ to_be_bytes w32 (cast_unsigned w32 n)
entry_bytes (Float n) = 4 ∷ to_be_bytes w32 n
entry_bytes (Long n) = 5 ∷ to_be_bytes w64 (cast_unsigned w64 n)
entry_bytes (Double n) = 6 ∷ to_be_bytes w64 n
entry_bytes (Class name) = 7 ∷ to_be_bytes w16 name
entry_bytes (Str text) = 8 ∷ to_be_bytes w16 text
entry_bytes (Field class pair) = twin_bytes 9 class pair
entry_bytes (Method class pair) = twin_bytes 10 class pair
entry_bytes (InterfaceMethod class pair) = twin_bytes 11 class pair
entry_bytes (NameAndType name descriptor) = twin_bytes 12 name descriptor
entry_bytes (MethodHandle kind index) = 15 ∷ to_be_bytes w8 kind ++ to_be_bytes w16 index
entry_bytes (MethodType descriptor) = 16 ∷ to_be_bytes w16 descriptor
entry_bytes (InvokeDynamic bootstrap pair) = twin_bytes 18 bootstrap pair

-- what has a spelling: numbers in the range of their fields, and texts of fewer than 65,536 bytes
abbrev pub EntryFits : Entry → Type 0
EntryFits (Utf8 units) = (length (utf units) < 2 ^ 16) × IsUnits units
EntryFits (Integer n) = FitsSigned w32 n
EntryFits (Float n) = n < 2 ^ 32
EntryFits (Long n) = FitsSigned w64 n
EntryFits (Double n) = n < 2 ^ 64
EntryFits (Class name) = name < 2 ^ 16
EntryFits (Str text) = text < 2 ^ 16
EntryFits (Field class pair) = (class < 2 ^ 16) × (pair < 2 ^ 16)
EntryFits (Method class pair) = (class < 2 ^ 16) × (pair < 2 ^ 16)
EntryFits (InterfaceMethod class pair) = (class < 2 ^ 16) × (pair < 2 ^ 16)
EntryFits (NameAndType name descriptor) = (name < 2 ^ 16) × (descriptor < 2 ^ 16)
EntryFits (MethodHandle kind index) = (kind < 2 ^ 8) × (index < 2 ^ 16)
EntryFits (MethodType descriptor) = descriptor < 2 ^ 16
EntryFits (InvokeDynamic bootstrap pair) = (bootstrap < 2 ^ 16) × (pair < 2 ^ 16)

-- an entry, when so many slots follow its own
abbrev pub EntryText : ℕ → List ℕ → Entry → Type 0
EntryText slots text entry = (text ≡ entry_bytes entry) × EntryFits entry × (is_wide (Some entry) ≡ true → 0 < slots)

-- The second slot of a long or double has no bytes.
abbrev pub SlotText : List (Option Entry) → ℕ → List ℕ → Option Entry → Type 0
SlotText before slots text None = (is_second before ≡ true) × (text ≡ [])
SlotText before slots text (Some entry) = (is_second before ≡ false) × EntryText slots text entry

-- each index names an entry that is allowed in its place, and each name and descriptor has its form
pub record IsSound (slots : List (Option Entry)) : Type 0 where
  pub indices : All (λ slot. wrong_index slots slot ≡ None) slots
  pub names : All (λ slot. wrong_name slots slot ≡ None) slots

-- The count is one more than there are slots, or 0 where there are none.
abbrev pub PoolText : List ℕ → List (Option Entry) → Type 0
PoolText bytes slots = (count : ℕ) × (text : List ℕ) × (count < 2 ^ 16) × (count - 1 ≡ length slots) × (bytes ≡ to_be_bytes w16 count ++ text) × Joined SlotText [] text slots × IsSound slots

-- ---- what has a spelling

abbrev pub slot_bytes : Option Entry → List ℕ
slot_bytes None = []
slot_bytes (Some entry) = entry_bytes entry

-- slots in their order: a second slot behind each long and double and nowhere else
abbrev pub Laid : List (Option Entry) → List (Option Entry) → Type 0
Laid before [] = Unit {0}
Laid before (None ∷ slots) = (is_second before ≡ true) × Laid (before ++ None ∷ []) slots
Laid before (Some entry ∷ slots) = (is_second before ≡ false) × EntryFits entry × (is_wide (Some entry) ≡ true → 0 < length slots) × Laid (before ++ Some entry ∷ []) slots

-- The conditions of the grammar on the slots alone: exactly such slots have a spelling.
pub record IsPool (slots : List (Option Entry)) : Type 0 where
  pub few : length slots + 1 < 2 ^ 16
  pub laid : Laid [] slots
  pub sound : IsSound slots

-- the spelling of a pool that is written: the count is never 0
abbrev pub pool_spelling : List (Option Entry) → List ℕ
pool_spelling slots = to_be_bytes w16 (length slots + 1) ++ flat_map slot_bytes slots
