-- The rows that use a class.
use Rattle.std.proofs.Common.{◌≡◌, ℕ, Bool, false, sym, ap, ◌∙◌}
use Rattle.jvm_model.specs.declared.instr.Instr.TheVariants as form
use Rattle.jvm_model.specs.{declared.program.Program.Program, Classes.field_at, Entries.Entries, Rows.using}
use Rattle.jvm_model.specs.RowsStatics.{row_statics, read_static, write_static}
use Rattle.jvm_model.specs.RowsCreate.{row_create, new_object, is_bare}

pub get_uses : (p q : Program) (f c : ℕ) (s : Entries) → q ≡ p → c ≡ (field_at q f).class → row_statics p (form.GetStatic f) s ≡ using p c s (read_static p f s)
unfolding row_statics
get_uses p q f c s e h = ap (λ x. using p x s (read_static p f s)) (sym (h ∙ ap (λ r. (field_at r f).class) e))

pub put_uses : (p q : Program) (f c : ℕ) (s : Entries) → q ≡ p → c ≡ (field_at q f).class → row_statics p (form.PutStatic f) s ≡ using p c s (write_static p f s)
unfolding row_statics
put_uses p q f c s e h = ap (λ x. using p x s (write_static p f s)) (sym (h ∙ ap (λ r. (field_at r f).class) e))

pub new_uses : (p q : Program) (c : ℕ) (s : Entries) (b : Bool) → q ≡ p → b ≡ is_bare q c → b ≡ false → row_create p (form.New c) s ≡ using p c s (new_object p c s)
unfolding row_create
new_uses p q c s b e h f =
    let k : is_bare p c ≡ false = ap (λ r. is_bare r c) (sym e) ∙ sym h ∙ f in
    rw k
