use Rattle.std.proofs.Common.{◌∙◌, sym, ap, arith}
use Rattle.std.specs.Prelude.{not}
use Rattle.code_decode.specs.Targets.{is_marked}
use Rattle.code_decode.proofs.TargetSteps.{leads_nowhere}
use Rattle.code_decode.proofs.starts.leads_to_starts.Goals as goal

pub returns-then-not-names_places : goal.returns-then-not-names_places
returns-then-not-names_places c = ap not c.if-not-names_places.true ∙ sym (leads_nowhere (is_marked c.args.starts.now) c.args.op.now (omega arith) (sym c.names_places.ensures ∙ c.if-not-names_places.true))
