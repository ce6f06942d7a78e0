use Rattle.std.proofs.Common.{◌≡◌, ◌∙◌, ap, length, map, arith}
use Rattle.std.proofs.lemmas.List.{length-map}
use Rattle.jvm_model.specs.{declared.program.ClassRec.ClassRec, Library.builtin_classes}
use Rattle.jvm_model.proofs.BuiltinRules.{lengths}
use Rattle.class_link.proofs.Tables.{builtins_differ}
use Rattle.class_link.proofs.names.names_of.Goals as goal

pub note_records-requires : goal.note_records-requires
note_records-requires c = omega (arith, ap length c.requires.builtin, lengths.0, ap length c.new-names.ensures)

pub note_classes-requires : goal.note_classes-requires
note_classes-requires c =
    let names : c.note_records.new.names ≡ map (λ x. x.name) builtin_classes = c.in_ok-note_records.ensures ∙ rw (c.new-names.ensures, c.requires.builtin) builtins_differ in
    omega (arith, ap length names, length-map builtin_classes (λ (x : ClassRec). x.name), lengths.0)
