-- The step of the machine: one case for each row of the table of steps.
use Rattle.std.specs.Prelude.{ℕ, List, Option, Some, None}
use Rattle.jvm_model.specs.declared.{values.Value.Value, values.Touch.Touch, instr.Instr.Instr, library.Native.Native, state.EntryKind.EntryKind}
use Rattle.jvm_model.specs.declared.instr.Instr.TheVariants as form
use Rattle.jvm_model.specs.declared.outcome.Next.TheVariants.{Go, Fault, Raise, Enter, Leave, Over}
use Rattle.jvm_model.specs.declared.state.EntryKind.TheVariants.{Absent, InMethod, InClass}
use Rattle.jvm_model.specs.{declared.program.Program.Program, World.World, Classes.method_at, Classes.form_at, Entries.Entries, RowsMoves.row_moves}
use Rattle.jvm_model.specs.{RowsArith.row_arith, RowsBranches.row_branches, RowsStatics.row_statics, RowsFields.row_fields, RowsCreate.row_create}
use Rattle.jvm_model.specs.Access.{Access, done, spend, bind, run}
use Rattle.jvm_model.specs.Rows.{Answer, answer, stuck_row, popping, on_object, none_here}
use Rattle.jvm_model.specs.{RowsArrays.row_arrays, RowsCasts.row_casts, RowsCalls.row_calls, RowsReturn.row_return, Working.Working, Natives.row_native}
use Rattle.jvm_model.specs.{Initialise.row_finish, Initialise.row_fail, Raising.row_raise, Throwing.throws, Driver.drive}
use Rattle.jvm_model.specs.State.{State, Turn, next, stuck_turn, raise, with_entries}

-- the groups of forms
pub data Group : Type 0 where
  moves arith branches statics fields create arrays casts calls returns throw : Group

-- the group of a form
abbrev pub group_of : Instr → Group
group_of form.Nop = moves
group_of (form.Const v) = moves
group_of (form.Load x n) = moves
group_of (form.Store x n) = moves
group_of (form.ArrayLoad x) = arrays
group_of (form.ArrayStore x) = arrays
group_of form.Pop = moves
group_of form.Pop2 = moves
group_of form.Dup = moves
group_of form.DupX1 = moves
group_of form.DupX2 = moves
group_of form.Dup2 = moves
group_of form.Dup2X1 = moves
group_of form.Dup2X2 = moves
group_of form.Swap = moves
group_of (form.Binary x w) = arith
group_of (form.Neg w) = arith
group_of (form.Inc n by) = arith
group_of (form.Convert x) = arith
group_of form.Compare = arith
group_of (form.IfZero x to) = branches
group_of (form.IfInts x to) = branches
group_of (form.IfRefs x to) = branches
group_of (form.IfNull x to) = branches
group_of (form.Goto to) = branches
group_of (form.Table low ts to) = branches
group_of (form.Lookup ps to) = branches
group_of (form.Return x) = returns
group_of (form.GetStatic f) = statics
group_of (form.PutStatic f) = statics
group_of (form.GetField c f) = fields
group_of (form.PutField c f) = fields
group_of (form.InvokeVirtual k m) = calls
group_of (form.InvokeSpecial k m) = calls
group_of (form.InvokeStatic m) = calls
group_of (form.InvokeInterface c m) = calls
group_of (form.New c) = create
group_of (form.NewArray k) = create
group_of (form.MultiNewArray k n) = create
group_of form.ArrayLength = arrays
group_of form.Throw = throw
group_of (form.CheckCast k) = casts
group_of (form.InstanceOf k) = casts
group_of form.Monitor = moves

-- athrow: the throwable is raised; null throws
unfoldable pub row_throw : Entries → Access (Answer Entries)
row_throw s = popping s.top.stack (λ v vs. on_object s v (λ o. done (answer (Raise v) s)))

abbrev pub row_of : Group → Program → Instr → Entries → Access (Answer Entries)
row_of moves p i s = row_moves p i s
row_of arith p i s = row_arith p i s
row_of branches p i s = row_branches p i s
row_of statics p i s = row_statics p i s
row_of fields p i s = row_fields p i s
row_of create p i s = row_create p i s
row_of arrays p i s = row_arrays p i s
row_of casts p i s = row_casts p i s
row_of calls p i s = row_calls p i s
row_of returns p i s = row_return p i s
row_of throw p i s = row_throw s

-- the row of an instruction
unfoldable pub row : Program → Instr → Entries → Access (Answer Entries)
row p i s = row_of (group_of i) p i s

-- how the step ends after a built-in method
abbrev pub after_native : Program → State → Answer Working → Access Turn
after_native p s stuck_row = done stuck_turn
after_native p s (answer Go t) = done (next (record s { entries = t.entries; own = t.own }))
after_native p s (answer (Fault c) t) = throws p c (record s { entries = t.entries; own = t.own })
after_native p s (answer (Raise v) t) = done stuck_turn
after_native p s (answer (Enter m) t) = done stuck_turn
after_native p s (answer Leave t) = done stuck_turn
after_native p s (answer Over t) = done stuck_turn

-- a method that is entered: a built-in one runs now, over these entries
abbrev pub entered : Program → State → Option Native → Entries → Access Turn
entered p s None t = done (next (with_entries s t))
entered p s (Some x) t = bind (row_native p x (record { entries = t; own = s.own })) (after_native p s)

-- how the step ends after its row
abbrev pub after_row : Program → State → Answer Entries → Access Turn
after_row p s stuck_row = done stuck_turn
after_row p s (answer Go t) = done (next (with_entries s t))
after_row p s (answer (Fault c) t) = throws p c (with_entries s t)
after_row p s (answer (Raise v) t) = done (next (raise v (with_entries s t)))
after_row p s (answer (Enter m) t) = entered p s (method_at p m).native t
after_row p s (answer Leave t) = done (next (with_entries s t))
after_row p s (answer Over t) = done stuck_turn

abbrev pub row_or_none : Program → Option Instr → Entries → Access (Answer Entries)
row_or_none p None s = none_here
row_or_none p (Some i) s = row p i s

-- the row of the instruction at the top frame's place
unfoldable pub row_here : Program → Entries → Access (Answer Entries)
row_here p s = row_or_none p (form_at p s.top.number s.top.pc) s

-- what the step does, by the top entry and the throwable that is being raised
abbrev pub acts : Program → EntryKind → Option Value → State → Access Turn
acts p Absent v s = drive p s
acts p InMethod None s = bind (row_here p s.entries) (after_row p s)
acts p InMethod (Some v) s = bind (row_raise p v s.entries) (after_row p s)
acts p (InClass b) None s = bind (row_finish p s.entries) (after_row p s)
acts p (InClass b) (Some v) s = bind (row_fail p v s.entries) (after_row p s)

-- the step: each costs 1 and what its row lists
unfoldable pub step : Program → State → Access Turn
step p s = spend 1 (acts p s.entries.top.kind s.raised s)

-- what the step costs, what it touches, and how it ends, in a world
abbrev pub cost : Program → State → World → ℕ
cost p s w = (run (step p s) w).units

abbrev pub touch : Program → State → World → List Touch
touch p s w = (run (step p s) w).touches

abbrev pub turn : Program → State → World → Turn
turn p s w = (run (step p s) w).value
