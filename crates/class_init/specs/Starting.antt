-- The rows of an initialisation entry, as contracts name them.
use Rattle.std.specs.Prelude.{ℕ, List, Option, Some, None, IsSome}
use Rattle.jvm_model.specs.declared.{values.Value.Value, values.InitState.TheVariants.Idle, program.Program.Program}
use Rattle.jvm_model.specs.{Classes.class_at, Classes.method_at, Rows.none_here, Entries.Entries}
use Rattle.jvm_model.specs.Initialise.{Part, row_fail, finished, looks, looked_at, starts, starts_body}
use Rattle.vm_mem.specs.Refines.{Row}

abbrev pub fail_row : Value → Row Entries
fail_row v p s = row_fail p v s

-- the class is Done
abbrev pub leave_row : Row Entries
leave_row p s = finished s

-- the states of these parts are still to be looked at; n is the price so far
abbrev pub look_row : List Part → ℕ → Row Entries
look_row xs n p s = looks p xs n s

-- this part is Idle
abbrev pub begin_row : ℕ → ℕ → Row Entries
begin_row c n p s = looked_at c n s none_here Idle

-- no part is left; n is the price of them all
abbrev pub start_row : ℕ → Row Entries
start_row n p s = starts p (class_at p s.top.number).initialiser n s

-- this `<clinit>` is entered
abbrev pub enter_row : ℕ → ℕ → Row Entries
enter_row m n p s = starts_body (method_at p m).body m n s

-- a class's `<clinit>`, where there is one, has code
abbrev pub HasStart : Program → Option ℕ → Type 0
HasStart p None = Unit {0}
HasStart p (Some m) = IsSome (method_at p m).body
