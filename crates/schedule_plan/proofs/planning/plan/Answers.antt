-- The chains have no more units than there are.
use Rattle.std.proofs.Common.{◌∙◌, ℕ, List, ap, length, sum, arith}
use Rattle.order_law.proofs.Posts.{forms_apart}
use Rattle.schedule_plan.specs.Plans.{chain_units}
use Rattle.schedule_plan.proofs.{Totals.chains_within, Totals.few_dealt, Dealing.plan_of}
use Rattle.schedule_plan.proofs.planning.plan.Goals as goal

pub shares_of-requires-clause-small : goal.shares_of-requires-clause-small
shares_of-requires-clause-small c =
    let same = ap (λ (l : List ℕ). sum l) (c.deref-2.ensures.value ∙ c.in_ok-sizes.ensures.sizes) in
    let within = chains_within c.args.c.now.lists c.args.units.now (forms_apart c.args.c.now.lists c.args.c.now.form) c.requires.listed in
    omega arith

pub invariant_of-result-clause-short : goal.invariant_of-result-clause-short
invariant_of-result-clause-short c =
    let is = (plan_of (chain_units c.args.c.now.lists c.args.units.now) c.deref.result.now c.deref-2.result.now c.in_ok-order.order.items c.deref-3.result.now c.args.n c.in_ok-shares.shares.items c.from_vec.result
    (c.deref.ensures.value ∙ c.in_ok-sizes.ensures.sizes) (c.deref-2.ensures.value ∙ c.in_ok-sizes.ensures.sizes) c.deref-3.ensures.value c.from_vec.ensures c.in_ok-order.ensures c.in_ok-shares.ensures).0 in
    let same = ap (λ (l : List ℕ). length l) c.in_ok-sizes.ensures.sizes in
    few_dealt (length (chain_units c.args.c.now.lists c.args.units.now)) 4294967296 c.from_vec.result is.dealt (omega (arith, same, c.in_ok-sizes.ensures.few))

pub returns-clause-plan : goal.returns-clause-plan
returns-clause-plan c = (plan_of (chain_units c.args.c.now.lists c.args.units.now) c.deref.result.now c.deref-2.result.now c.in_ok-order.order.items c.deref-3.result.now c.args.n c.in_ok-shares.shares.items c.from_vec.result
    (c.deref.ensures.value ∙ c.in_ok-sizes.ensures.sizes) (c.deref-2.ensures.value ∙ c.in_ok-sizes.ensures.sizes) c.deref-3.ensures.value c.from_vec.ensures c.in_ok-order.ensures c.in_ok-shares.ensures).0

pub returns-clause-balanced : goal.returns-clause-balanced
returns-clause-balanced c = (plan_of (chain_units c.args.c.now.lists c.args.units.now) c.deref.result.now c.deref-2.result.now c.in_ok-order.order.items c.deref-3.result.now c.args.n c.in_ok-shares.shares.items c.from_vec.result
    (c.deref.ensures.value ∙ c.in_ok-sizes.ensures.sizes) (c.deref-2.ensures.value ∙ c.in_ok-sizes.ensures.sizes) c.deref-3.ensures.value c.from_vec.ensures c.in_ok-order.ensures c.in_ok-shares.ensures).1
