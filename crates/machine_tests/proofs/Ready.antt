-- Rows that can be made over the opening world.
use Rattle.std.proofs.Common.{◌≡◌, ◌∷◌, ◌<◌, ℕ, pos, List, length, true, arith}
use Rattle.std.proofs.lemmas.List.{length-map}
use Rattle.jvm_model.specs.declared.{program.Program.Program, program.FieldRec.FieldRec, values.Kind.Kind, values.Value.Value, values.Value.TheVariants.Int}
use Rattle.jvm_model.specs.declared.instr.Instr.TheVariants as form
use Rattle.jvm_model.specs.{World.World, Classes.field_at, Classes.is_trivial, Entries.Entries, Rows.begin, RowsCreate.row_create}
use Rattle.jvm_model.specs.{RowsStatics.row_statics, RowsStatics.read_static, Suite.opening, View.IsSafe, View.IsRow}

-- a static of a class without an initialisation state is read
pub static_ready : (p : Program) (w : World) (f : ℕ) (s : Entries) → w ≡ opening p → f < length p.fields → is_trivial p (field_at p f).class ≡ true → IsSafe IsRow (row_statics p (form.GetStatic f) s) w
unfolding row_statics begin read_static opening
static_ready p w f s e h t = rw (e, t) (let l = length-map p.fields (λ (x : FieldRec). x.opening) in omega arith, tt)

-- an array of a length that isn't negative is made
pub array_ready : (p : Program) (w : World) (k : Kind) (s : Entries) (n : ℕ) (vs : List Value) → s.top.stack ≡ Int (pos n) ∷ vs → IsSafe IsRow (row_create p (form.NewArray k) s) w
unfolding row_create
array_ready p w k s n vs e = rw e tt
