-- The rows of calls and returns and parts of them, as contracts name them.
use Rattle.std.specs.Prelude.{◌≡◌, ℕ, ◌+◌, List, Option}
use Rattle.jvm_model.specs.declared.{values.Value.Value, values.Kind.Kind, state.EntryKind.TheVariants.InMethod, instr.Instr.Instr}
use Rattle.jvm_model.specs.{Entries.Entries, Entries.popped_entry, Kinds.class_of, Rows.with_kind, RowsReturn.row_return, RowsReturn.hands_on}
use Rattle.jvm_model.specs.RowsCalls.{row_calls, calls, calls_selected, on_receiver, receiver, argument_count}
use Rattle.jvm_model.specs.Selection.{Selected}
use Rattle.vm_frames.specs.Stack.{HasRoom}
use Rattle.vm_mem.specs.Refines.{Row}
use Rattle.vm_calls.specs.Choices.{dispatched}

abbrev pub call_row : Instr → Row Entries
call_row i p s = row_calls p i s

abbrev pub return_row : Instr → Row Entries
return_row i p s = row_return p i s

-- a method is called with so many operands
abbrev pub method_row : ℕ → ℕ → Row Entries
method_row m n p s = calls p m n s

-- the same of the one that is selected
abbrev pub selected_row : Selected → ℕ → Row Entries
selected_row x n p s = calls_selected p x n s

-- a method is called on an instance of a kind; an interface is named by invokeinterface
abbrev pub kind_row : Option ℕ → ℕ → Kind → Row Entries
kind_row i m x p s = calls_selected p (dispatched p i m (class_of x)) (argument_count p m + 1) s

abbrev pub object_row : Option ℕ → ℕ → Row Entries
object_row i m p s = on_receiver s (receiver p m s) (λ v. with_kind v (λ x. kind_row i m x p s))

-- these values, none or one, go to the entry below
abbrev pub hands_row : List Value → Row Entries
hands_row vs p s = hands_on p vs s

-- where the entry below is a frame, it has room for one more operand
abbrev pub HasRoomBelow : Entries → Type 0
HasRoomBelow s = (popped_entry s).top.kind ≡ InMethod → HasRoom 1 (popped_entry s)
