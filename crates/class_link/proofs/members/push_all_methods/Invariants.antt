use Rattle.std.proofs.Common.{◌≡◌, ◌+◌, ◌++◌, drop}
use Rattle.class_link.specs.Assembly.{method_recs, bare_body}
use Rattle.class_link.proofs.members.push_all_methods.Given as goal

abbrev pub invariant-loop-file : goal.invariant-loop-file
invariant-loop-file l = record {
  rest : l.made ++ method_recs (λ _ code. bare_body code) l.number (drop l.file-index l.files) ≡ l.initial.made ++ method_recs (λ _ code. bare_body code) l.class l.files;
  number : l.number ≡ l.class + l.file-index;
}
