-- What tests say of the texts of a pool, each text looked at once.
use Rattle.std.specs.Prelude.{◌≡◌, ℕ, ◌+◌, ◌*◌, ◌^◌, ◌<◌, length, map, List, [], ◌∷◌, Option, Some, None, unwrap_or, Bool, true, ◌&&◌, ◌||◌, if◌then◌else◌}
use Rattle.std.specs.{Ordering.nat_cmp, BTreeSet.BTreeSet, BTreeSet.contains}
use Rattle.class_pool.specs.{declared.pool.Entry.Entry, declared.pool.Entry.TheVariants.Utf8, Pool.entry_of, Pool.is_text}
use Rattle.et_base.specs.Names.{argument_units}
use Rattle.class_reader.specs.declared.{parts.MemberPart.MemberPart, texts.Mark.Mark}
use Rattle.class_reader.specs.Names.{is_text_of, same_text, is_repeated, is_field_name, is_field_type, is_method_name}

-- the number of the first slot, from i on, with this text
abbrev pub first_from : ℕ → List (Option Entry) → List ℕ → Option ℕ
first_from i [] text = None
first_from i (slot ∷ slots) text = if is_text_of text slot then Some i else first_from (i + 1) slots text

-- the number of the first slot with the text that an entry is
abbrev pub first_of : List (Option Entry) → Option Entry → Option ℕ
first_of slots (Some (Utf8 units)) = first_from 0 slots units
first_of slots _ = None

-- the argument units of the method descriptor that an entry is
abbrev pub units_of : Option Entry → Option ℕ
units_of (Some (Utf8 units)) = argument_units units
units_of _ = None

abbrev pub mark_with : Option Entry → Option ℕ → Mark
mark_with entry first = record { field_name = is_field_name entry; field_type = is_field_type entry; method_name = is_method_name entry; argument_units = units_of entry; first = first }

abbrev pub mark_of : List (Option Entry) → Option Entry → Mark
mark_of slots entry = mark_with entry (first_of slots entry)

-- one number for a name and a descriptor: texts that are equal have equal numbers
abbrev pub key_of : List (Option Entry) → ℕ → ℕ → ℕ
key_of slots name descriptor = unwrap_or (first_of slots (entry_of slots name)) 0 * 65536 + unwrap_or (first_of slots (entry_of slots descriptor)) 0

-- whether two pairs of indices name the same name and descriptor
abbrev pub is_same : List (Option Entry) → ℕ → ℕ → ℕ → ℕ → Bool
is_same slots n d name descriptor = same_text (entry_of slots n) (entry_of slots name) && same_text (entry_of slots d) (entry_of slots descriptor)

-- the keys are those of the names and descriptors that pass the test
abbrev pub Keys : List (Option Entry) → BTreeSet ℕ → (ℕ → ℕ → Bool) → Type 0
Keys slots keys test = (n d : ℕ) → is_text (entry_of slots n) ≡ true → is_text (entry_of slots d) ≡ true → contains nat_cmp keys (key_of slots n d) ≡ test n d

-- the keys are those of these members
abbrev pub IsSeen : List (Option Entry) → List MemberPart → BTreeSet ℕ → Type 0
IsSeen slots before keys = Keys slots keys (λ n d. is_repeated slots before n d)

-- the keys are those of these members and of one more name and descriptor
abbrev pub IsSeenWith : List (Option Entry) → List MemberPart → ℕ → ℕ → BTreeSet ℕ → Type 0
IsSeenWith slots before name descriptor keys = Keys slots keys (λ n d. is_repeated slots before n d || is_same slots name descriptor n d)

-- a mark for each slot of a pool
pub record IsMarked (slots : List (Option Entry)) (marks : List Mark) : Type 0 where
  pub few : length slots + 1 < 2 ^ 16
  pub all : marks ≡ map (mark_of slots) slots
