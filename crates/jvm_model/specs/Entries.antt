-- The list of entries: method frames (JVMS 2.6) and initialisation entries (this project's), the top one's parts open.
use Rattle.std.specs.Prelude.{ℕ, List, [], ◌∷◌, ◌++◌, length, replicate, take, drop, reverse, ◌-◌, ◌+◌, Bool, false, nat_le}
use Rattle.jvm_model.specs.declared.values.{Value.Value, Value.TheVariants.Long, Value.TheVariants.Null}
use Rattle.jvm_model.specs.declared.state.{EntryKind.EntryKind, EntryKind.TheVariants.Absent, EntryKind.TheVariants.InMethod, EntryKind.TheVariants.InClass}
use Rattle.jvm_model.specs.declared.program.Body.{Body}

-- An entry: the number of its method or class, and of a frame its place in the code, its operands with the top first, and
-- its locals by slot. A long is one operand; in the locals it stands in the first of its two slots.
pub record Entry : Type 0 where
  pub kind : EntryKind
  pub number : ℕ
  pub pc : ℕ
  pub stack : List Value
  pub locals : List Value

pub record Entries : Type 0 where
  pub top : Entry
  pub below : List Entry

abbrev pub no_entry : Entry
no_entry = record { kind = Absent; number = 0; pc = 0; stack = []; locals = [] }

abbrev pub no_entries : Entries
no_entries = record { top = no_entry; below = [] }

-- the most entries (this project's)
abbrev pub entry_limit : ℕ
entry_limit = 1024

-- the entries, the top one first
abbrev pub all_entries : Entries → List Entry
all_entries s = elim s.top.kind [ Absent ↦ s.below | InMethod ↦ s.top ∷ s.below | InClass b ↦ s.top ∷ s.below ]

-- as many entries as may stand
abbrev pub is_full : Entries → Bool
is_full s = nat_le entry_limit (length (all_entries s))

-- an entry goes on top
abbrev pub with_entry : Entry → Entries → Entries
with_entry e s = record { top = e; below = all_entries s }

-- the list of entries, the first one on top
abbrev pub entries_of : List Entry → Entries
entries_of [] = no_entries
entries_of (e ∷ es) = record { top = e; below = es }

-- the top entry is popped
abbrev pub popped_entry : Entries → Entries
popped_entry s = entries_of s.below

abbrev pub with_stack : Entries → List Value → Entries
with_stack s vs = record s { top = record s.top { stack = vs } }

abbrev pub with_place : Entries → ℕ → Entries
with_place s n = record s { top = record s.top { pc = n } }

-- the initialisation entry of a class, whose `<clinit>` wasn't entered yet
abbrev pub class_entry : ℕ → Entry
class_entry c = record { kind = InClass false; number = c; pc = 0; stack = []; locals = [] }

-- arguments by slot: a long takes two
abbrev pub slots_of : List Value → List Value
slots_of [] = []
slots_of (Long n ∷ vs) = Long n ∷ (Null ∷ slots_of vs)
slots_of (v ∷ vs) = v ∷ slots_of vs

abbrev pub filled : ℕ → List Value → List Value
filled n vs = vs ++ replicate (n - length vs) Null

-- the frame of a method that is entered with these arguments (JVMS 2.6)
abbrev pub frame_of : Body → ℕ → List Value → Entry
frame_of b m args = record { kind = InMethod; number = m; pc = 0; stack = []; locals = filled b.max_locals (slots_of args) }

-- what entering a method costs
abbrev pub frame_cost : Body → ℕ
frame_cost b = b.max_stack + b.max_locals

-- a method is entered with the n topmost operands as its arguments
abbrev pub called : Body → ℕ → ℕ → Entries → Entries
called b m n s = with_entry (frame_of b m (reverse (take n s.top.stack))) (with_stack s (drop n s.top.stack))
