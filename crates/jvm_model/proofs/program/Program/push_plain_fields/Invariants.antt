use Rattle.std.proofs.Common.{◌≡◌, ◌++◌, drop, filter, not}
use Rattle.jvm_model.specs.Classes.{field_at, is_static}
use Rattle.jvm_model.proofs.program.Program.push_plain_fields.Given as goal

-- the fields so far, and those of what is left
abbrev pub invariant-loop-field : goal.invariant-loop-field
invariant-loop-field l = l.fields ++ filter (λ f. not (is_static (field_at l.self f).flags)) (drop l.field-index l.field-items) ≡ l.fn.fields ++ filter (λ f. not (is_static (field_at l.self f).flags)) l.field-items
