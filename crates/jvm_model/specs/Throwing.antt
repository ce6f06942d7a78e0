-- A step that throws by itself.
use Rattle.std.specs.Prelude.{ℕ}
use Rattle.jvm_model.specs.{declared.values.Value.TheVariants.Obj, declared.program.Program.Program, Access.Access, Access.done, Access.make, Access.spend}
use Rattle.jvm_model.specs.{Classes.blank, Classes.instance_head, State.State, State.Turn, State.next, State.raise}

-- A new throwable of the class is made, without a message, and raised. It costs 2 besides 1.
unfoldable pub throws : Program → ℕ → State → Access Turn
throws p c s = spend 2 (make (blank p (instance_head c)) (λ o. done (next (raise (Obj o) s))))
