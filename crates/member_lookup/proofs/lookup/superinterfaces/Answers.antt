use Rattle.std.proofs.Common.{◌∙◌}
use Rattle.std.proofs.lemmas.Result.{IfOk-weaker}
use Rattle.member_lookup.proofs.Lookups.{superinterfaces_noted}
use Rattle.member_lookup.proofs.lookup.superinterfaces.Goals as goal

pub returns : goal.returns
returns c = IfOk-weaker c.visited.result _ _ (λ found h. h ∙ superinterfaces_noted c.args.p.now c.args.class c.new-seen.result c.visit_upwards.new.seen c.new-seen.ensures.empty c.in_ok-visit_upwards.ensures) c.visited.ensures
