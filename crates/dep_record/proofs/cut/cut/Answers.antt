use Rattle.std.proofs.Common.{◌+◌, Some, take, sym, ap, ◌∙◌}
use Rattle.std.proofs.lemmas.List.{take_rest}
use Rattle.dep_record.proofs.CutLaws.{cut_parts, cut_is}
use Rattle.dep_record.proofs.cut.cut.Goals as goal

pub returns-in-Some-clause-value : goal.returns-in-Some-clause-value
returns-in-Some-clause-value c =
    let bytes = c.args.bytes.now in
    let i = c.in-Some.i in
    ap (λ rest. Some (take i bytes, rest)) (take_rest bytes (i + 1)) ∙ ap (cut_parts bytes) c.in-Some.ensures ∙ sym (cut_is c.args.separator bytes)
