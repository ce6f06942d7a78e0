-- What contracts say of a stack of entries beside the definitions of the machine.
use Rattle.std.specs.Prelude.{ℕ, List, [], ◌∷◌, ◌+◌, ◌≤◌, length, take, drop, reverse, get_or}
use Rattle.jvm_model.specs.declared.values.{Value.Value, Value.TheVariants.Null}
use Rattle.jvm_model.specs.declared.state.{EntryKind.EntryKind, EntryKind.TheVariants.Absent, EntryKind.TheVariants.InMethod, EntryKind.TheVariants.InClass}
use Rattle.jvm_model.specs.RowsMoves.{with_local}
use Rattle.vm_frames.specs.Slots.{IsInt, IsLong}
use Rattle.jvm_model.specs.Entries.{Entry, Entries, with_entry, with_stack, filled, slots_of}

-- How many operands an entry may have: the greatest max_stack that a class file can say (JVMS 4.7.3), and none but in a
-- frame.
abbrev pub operand_limit : EntryKind → ℕ
operand_limit Absent = 0
operand_limit InMethod = 65535
operand_limit (InClass b) = 0

-- n more operands have room in the top entry
abbrev pub HasRoom : ℕ → Entries → Type 0
HasRoom n s = length s.top.stack + n ≤ operand_limit s.top.kind

-- the frame of a method with so many locals that is entered with these arguments: `frame_of` of its body
abbrev pub frame_with : ℕ → ℕ → List Value → Entry
frame_with max_locals m args = record { kind = InMethod; number = m; pc = 0; stack = []; locals = filled max_locals (slots_of args) }

-- such a method is entered with the n topmost operands as its arguments: `called` of its body
abbrev pub called_with : ℕ → ℕ → ℕ → Entries → Entries
called_with max_locals m n s = with_entry (frame_with max_locals m (reverse (take n s.top.stack))) (with_stack s (drop n s.top.stack))

-- the top operand is an int
abbrev pub HasIntOnTop : List Value → Type 0
HasIntOnTop [] = ⊥
HasIntOnTop (v ∷ vs) = IsInt v

-- the top operand is a long
abbrev pub HasLongOnTop : List Value → Type 0
HasLongOnTop [] = ⊥
HasLongOnTop (v ∷ vs) = IsLong v

-- the top operand goes into a local
abbrev pub stored_local : Entries → ℕ → Entries
stored_local s i = with_stack (with_local s i (get_or s.top.stack 0 Null)) (drop 1 s.top.stack)

-- the top operand stands below the one under it as well
abbrev pub dup_below : List Value → List Value
dup_below vs = get_or vs 0 Null ∷ get_or vs 1 Null ∷ get_or vs 0 Null ∷ drop 2 vs
