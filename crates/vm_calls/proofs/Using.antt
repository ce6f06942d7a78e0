-- The row that uses a class.
use Rattle.std.proofs.Common.{◌≡◌, ℕ, sym, ap, ◌∙◌}
use Rattle.jvm_model.specs.declared.instr.Instr.TheVariants as form
use Rattle.jvm_model.specs.{declared.program.Program.Program, Classes.method_at, Entries.Entries, Rows.using}
use Rattle.jvm_model.specs.RowsCalls.{row_calls, calls, argument_count}

pub static_uses : (p q r : Program) (m c n : ℕ) (s : Entries) → q ≡ p → r ≡ p → c ≡ (method_at q m).class → n ≡ argument_count r m → row_calls p (form.InvokeStatic m) s ≡ using p c s (calls p m n s)
unfolding row_calls
static_uses p q r m c n s e f h k =
    ap (λ x. using p x s (calls p m (argument_count p m) s)) (sym (h ∙ ap (λ z. (method_at z m).class) e))
    ∙ ap (λ x. using p c s (calls p m x s)) (sym (k ∙ ap (λ z. argument_count z m) f))
