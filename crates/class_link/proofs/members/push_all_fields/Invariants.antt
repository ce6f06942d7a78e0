use Rattle.std.proofs.Common.{◌≡◌, ◌+◌, ◌++◌, drop}
use Rattle.class_link.specs.Assembly.{field_recs}
use Rattle.class_link.proofs.members.push_all_fields.Given as goal

abbrev pub invariant-loop-file : goal.invariant-loop-file
invariant-loop-file l = record {
  rest : l.made ++ field_recs l.texts l.number (drop l.file-index l.files) ≡ l.initial.made ++ field_recs l.texts l.class l.files;
  number : l.number ≡ l.class + l.file-index;
}
