use Rattle.std.proofs.Common.{ℕ, List, refl, sym, subst, arith}
use Rattle.schedule_plan.specs.Plans.{HasUnits}
use Rattle.schedule_plan.proofs.Totals.{list_read}
use Rattle.electrictest.proofs.plan_texts.push_chains.Goals as goal

pub push_chain-requires-clause-listed : goal.push_chain-requires-clause-listed
push_chain-requires-clause-listed c =
    let chain = list_read c.args.lists.now c.args.lists.now c.loop-index.index c.index-lists-index.result c.as_slice.result.now refl (omega arith) c.index-lists-index.is c.as_slice.ensures in
    subst (λ (l : List ℕ). HasUnits l c.args.units.now) (sym chain) (c.requires.listed c.loop-index.index)
