use Rattle.std.proofs.Common.{◌∙◌}
use Rattle.std.proofs.lemmas.Result.{IfOk-weaker}
use Rattle.member_lookup.proofs.Lookups.{path_noted}
use Rattle.member_lookup.proofs.lookup.field_path.Goals as goal

pub returns : goal.returns
returns c = IfOk-weaker c.visited.result _ _ (λ path h. h ∙ path_noted c.args.p.now c.args.class c.new-seen.result c.visit.new.seen _ c.class_bound.ensures c.new-seen.ensures.empty c.in_ok-visit.ensures) c.visited.ensures
