use Rattle.std.proofs.Common.{◌∙◌, sym, ap, ◌++◌}
use Rattle.std.proofs.lemmas.List.{append-nil}
use Rattle.et_base.proofs.Utf8Laws.{utf8_of-nil}
use Rattle.et_base.proofs.utf8.bytes_of_units.Goals as goal

pub returns : goal.returns
returns c = sym (append-nil c.loop-next.out.items) ∙ ap (λ r. c.loop-next.out.items ++ r) (sym (utf8_of-nil c.loop-next.rest.now c.in_default.ensures.none)) ∙ c.loop-next.invariant
