-- The four invoke forms (JVMS 6.5).
use Rattle.std.specs.Prelude.{ℕ, length, ◌+◌, cond, nat_le, slice_get, Option, Some, None}
use Rattle.jvm_model.specs.declared.{values.Value.Value, values.Kind.Kind, instr.Instr.Instr, outcome.Next.TheVariants.Enter, library.Native.Native}
use Rattle.jvm_model.specs.declared.instr.Instr.TheVariants as form
use Rattle.jvm_model.specs.declared.program.{Body.Body, Program.Program}
use Rattle.jvm_model.specs.{Access.Access, Access.done, Access.spend, Entries.Entries, Entries.is_full, Entries.called, Entries.frame_cost}
use Rattle.jvm_model.specs.{Builtin.abstract_method_error, Builtin.stack_overflow_error, Classes.method_at, Descriptors.parameters, Kinds.class_of}
use Rattle.jvm_model.specs.Rows.{Answer, answer, none_here, faults, using, on_reference, with_kind}
use Rattle.jvm_model.specs.Selection.{Selected, chosen, failing, select_virtual, select_interface, select_special, named_class}

-- a method with code is entered with the n topmost operands; one without throws
abbrev pub enters_body : Option Body → ℕ → ℕ → Entries → Access (Answer Entries)
enters_body None m n s = faults abstract_method_error s
enters_body (Some b) m n s = cond (is_full s) (faults stack_overflow_error s) (spend (frame_cost b) (done (answer (Enter m) (called b m n s))))

-- a built-in method runs in the same step, over the operands as they are
abbrev pub enters_native : Option Native → Option Body → ℕ → ℕ → Entries → Access (Answer Entries)
enters_native (Some x) b m n s = done (answer (Enter m) s)
enters_native None b m n s = enters_body b m n s

-- the method m is called with the n topmost operands as its arguments, the receiver among them
unfoldable pub calls : Program → ℕ → ℕ → Entries → Access (Answer Entries)
calls p m n s = cond (nat_le n (length s.top.stack)) (enters_native (method_at p m).native (method_at p m).body m n s) none_here

abbrev pub calls_selected : Program → Selected → ℕ → Entries → Access (Answer Entries)
calls_selected p (chosen m) n s = calls p m n s
calls_selected p (failing c) n s = faults c s

-- how many values the method's descriptor asks for
unfoldable pub argument_count : Program → ℕ → ℕ
argument_count p m = length (parameters (method_at p m).descriptor)

-- what comes with the operand below the arguments; null throws
abbrev pub on_receiver : Entries → Option Value → (Value → Access (Answer Entries)) → Access (Answer Entries)
on_receiver s None k = none_here
on_receiver s (Some v) k = on_reference s v (k v)

abbrev pub receiver : Program → ℕ → Entries → Option Value
receiver p m s = slice_get s.top.stack (argument_count p m)

abbrev pub call_virtual : Program → ℕ → Entries → Kind → Access (Answer Entries)
call_virtual p m s x = calls_selected p (select_virtual p m (class_of x)) (argument_count p m + 1) s

abbrev pub call_interface : Program → ℕ → ℕ → Entries → Kind → Access (Answer Entries)
call_interface p i m s x = calls_selected p (select_interface p i m (class_of x)) (argument_count p m + 1) s

abbrev pub call_special : Program → Kind → ℕ → Entries → Access (Answer Entries)
call_special p k m s = calls_selected p (select_special p (method_at p s.top.number).class (named_class k) m) (argument_count p m + 1) s

unfoldable pub row_calls : Program → Instr → Entries → Access (Answer Entries)
row_calls p (form.InvokeStatic m) s = using p (method_at p m).class s (calls p m (argument_count p m) s)
row_calls p (form.InvokeVirtual k m) s = on_receiver s (receiver p m s) (λ v. with_kind v (λ x. call_virtual p m s x))
row_calls p (form.InvokeInterface i m) s = on_receiver s (receiver p m s) (λ v. with_kind v (λ x. call_interface p i m s x))
row_calls p (form.InvokeSpecial k m) s = on_receiver s (receiver p m s) (λ v. call_special p k m s)
row_calls p _ s = none_here
