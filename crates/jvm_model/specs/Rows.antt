-- The combinators of which the rows of the table of steps are made.
use Rattle.std.specs.Prelude.{ℕ, ℤ, List, [], ◌∷◌, cond, nat_eq}
use Rattle.jvm_model.specs.declared.values.{Value.Value, InitState.InitState}
use Rattle.jvm_model.specs.declared.values.Value.TheVariants.{Int, Long, Null, Lit, Obj}
use Rattle.jvm_model.specs.declared.values.InitState.TheVariants.{Idle, Running, Done, Erroneous}
use Rattle.jvm_model.specs.declared.values.Location.TheVariants as place
use Rattle.jvm_model.specs.declared.{outcome.Next.Next, outcome.Next.TheVariants.Go, outcome.Next.TheVariants.Fault, program.Program.Program, values.Kind.Kind}
use Rattle.jvm_model.specs.Access.{Access, done, read, write, bind}
use Rattle.jvm_model.specs.Classes.{is_trivial, next_place, literal_at}
use Rattle.jvm_model.specs.Entries.{Entries, with_stack, with_place, with_entry, class_entry, is_full}
use Rattle.jvm_model.specs.Builtin.{null_pointer_exception, no_class_error, stack_overflow_error, stream_class, string_class}
use Rattle.jvm_model.specs.declared.values.Kind.TheVariants as kind

-- How a row ends: how the step goes on, with the entries then, or there is no row.
pub data Answer (S : Type 0) : Type 0 where
  answer : Next → S → Answer S
  stuck_row : Answer S

-- there is no row
abbrev pub none_here : {S : Type 0} → Access (Answer S)
none_here = done stuck_row

-- the step throws by itself a new throwable of the class
abbrev pub faults : {S : Type 0} → ℕ → S → Access (Answer S)
faults c s = done (answer (Fault c) s)

-- the step goes on at the next instruction, with these operands
abbrev pub goes_on : Program → Entries → List Value → Access (Answer Entries)
goes_on p s vs = done (answer Go (with_place (with_stack s vs) (next_place p s.top.number s.top.pc)))

-- the step goes on at a place of the code, with these operands
abbrev pub goes_to : ℕ → Entries → List Value → Access (Answer Entries)
goes_to n s vs = done (answer Go (with_place (with_stack s vs) n))

-- what comes where there is an operand
abbrev pub popping : {S : Type 0} → List Value → (Value → List Value → Access (Answer S)) → Access (Answer S)
popping [] k = none_here
popping (v ∷ vs) k = k v vs

-- what comes at an int, at a long
abbrev pub on_int : {S : Type 0} → Value → (ℤ → Access (Answer S)) → Access (Answer S)
on_int (Int n) k = k n
on_int (Long n) k = none_here
on_int Null k = none_here
on_int (Lit n) k = none_here
on_int (Obj o) k = none_here

abbrev pub on_long : {S : Type 0} → Value → (ℤ → Access (Answer S)) → Access (Answer S)
on_long (Int n) k = none_here
on_long (Long n) k = k n
on_long Null k = none_here
on_long (Lit n) k = none_here
on_long (Obj o) k = none_here

-- what comes at an object; null throws, with these entries
abbrev pub on_object : {S : Type 0} → S → Value → (ℕ → Access (Answer S)) → Access (Answer S)
on_object s (Int n) k = none_here
on_object s (Long n) k = none_here
on_object s Null k = faults null_pointer_exception s
on_object s (Lit n) k = none_here
on_object s (Obj o) k = k o

-- what comes at a reference; null throws, with these entries
abbrev pub on_reference : {S : Type 0} → S → Value → Access (Answer S) → Access (Answer S)
on_reference s (Int n) k = none_here
on_reference s (Long n) k = none_here
on_reference s Null k = faults null_pointer_exception s
on_reference s (Lit n) k = k
on_reference s (Obj o) k = k

-- what a constant object is an instance of: the stream, or a string
abbrev pub constant_kind : ℕ → Kind
constant_kind n = kind.Class (cond (nat_eq n 0) stream_class string_class)

-- what comes with what a nonnull value is an instance of: an object's head is read
abbrev pub with_kind : {S : Type 0} → Value → (Kind → Access (Answer S)) → Access (Answer S)
with_kind (Int n) k = none_here
with_kind (Long n) k = none_here
with_kind Null k = none_here
with_kind (Lit n) k = k (constant_kind n)
with_kind (Obj o) k = read (place.Head o) (λ h. k h.kind)

-- what comes with the text of a string: a constant's is the program's, without a touch, another's is read; null throws
abbrev pub on_text : {S : Type 0} → Program → S → Value → (List ℕ → Access (Answer S)) → Access (Answer S)
on_text p s (Int n) k = none_here
on_text p s (Long n) k = none_here
on_text p s Null k = faults null_pointer_exception s
on_text p s (Lit n) k = k (literal_at p n)
on_text p s (Obj o) k = read (place.Text o) k

-- How the use of a class goes on (JVMS 5.5).
pub data Used : Type 0 where
  -- the class may be used
  ready : Used
  -- its initialisation was begun: these are the entries, and the instruction is tried again later
  begun : Entries → Used
  -- the step throws a new throwable of this class
  refused : ℕ → Used

abbrev pub begun_at : ℕ → Entries → InitState → Access Used
begun_at c s Idle = cond (is_full s) (done (refused stack_overflow_error)) (write (place.Init c) Running (done (begun (with_entry (class_entry c) s))))
begun_at c s Running = done ready
begun_at c s Done = done ready
begun_at c s Erroneous = done (refused no_class_error)

-- a class is used: one that isn't trivial may have to be begun
unfoldable pub begin : Program → ℕ → Entries → Access Used
begin p c s = cond (is_trivial p c) (done ready) (read (place.Init c) (begun_at c s))

-- what comes once a class may be used
abbrev pub once : Entries → Access (Answer Entries) → Used → Access (Answer Entries)
once s k ready = k
once s k (begun t) = done (answer Go t)
once s k (refused c) = faults c s

-- an instruction that uses a class
abbrev pub using : Program → ℕ → Entries → Access (Answer Entries) → Access (Answer Entries)
using p c s k = bind (begin p c s) (once s k)
