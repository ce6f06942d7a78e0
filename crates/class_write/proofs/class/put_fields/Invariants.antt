use Rattle.std.proofs.Common.{◌≡◌, ◌++◌, take, length}
use Rattle.std.specs.List.{flat_map}
use Rattle.class_write.specs.Spelling.{short_bytes, field_bytes}
use Rattle.class_write.proofs.class.put_fields.Given as goal

abbrev pub invariant-loop-field : goal.invariant-loop-field
invariant-loop-field l = l.out.items ≡ l.fn.out.items ++ short_bytes (length l.fields) ++ flat_map (field_bytes l.names) (take l.field-index l.fields)
