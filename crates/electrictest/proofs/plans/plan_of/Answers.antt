use Rattle.std.proofs.Common.{◌≡◌, ℕ, List}
use Rattle.std.proofs.lemmas.Result.{IfOk-weaker}
use Rattle.electrictest.specs.{PlanTexts.plan_text, Plans.IsPlanReport, Records.beginning}
use Rattle.electrictest.proofs.PlanLaws.{chains_have, units_small}
use Rattle.electrictest.proofs.plans.plan_of.Goals as goal

pub plan-requires-clause-listed : goal.plan-requires-clause-listed
plan-requires-clause-listed c =
    rw c.as_slice-units.ensures (chains_have 1024 _ c.args.begun.now.tests c.in_ok-set.set c.args.begun.now.record.units _ c.goes_up.ensures c.requires.tests (rw c.as_slice.ensures at c.in_ok-set.ensures) (rw c.as_slice-2.ensures at c.in_ok-listed.ensures))

pub plan-requires-clause-small : goal.plan-requires-clause-small
plan-requires-clause-small c = let r = c.args.begun.now.record in rw c.as_slice-units.ensures (units_small r.units r.edges r.form)

pub plan_text-requires-clause-listed : goal.plan_text-requires-clause-listed
plan_text-requires-clause-listed c =
    rw c.as_slice-units.ensures (chains_have 1024 _ c.args.begun.now.tests c.in_ok-set.set c.args.begun.now.record.units _ c.goes_up.ensures c.requires.tests (rw c.as_slice.ensures at c.in_ok-set.ensures) (rw c.as_slice-2.ensures at c.in_ok-listed.ensures))

pub plan_text-requires-clause-small : goal.plan_text-requires-clause-small
plan_text-requires-clause-small c = let r = c.args.begun.now.record in rw c.as_slice-units.ensures (units_small r.units r.edges r.form)

pub returns : goal.returns
returns c =
    let units = c.args.begun.now.record.units in
    let chains = c.in_ok-listed.listed.lists in
    let shares = c.in_ok-shares.shares.shares in
    IfOk-weaker c.plan_text.result (λ (t : List ℕ). t ≡ plan_text chains c.as_slice-units.result.now shares) (λ (t : List ℕ). IsPlanReport (beginning c.args.begun.now) c.args.workers t)
    (λ t h. record {
      set = c.in_ok-set.set;
      closure = rw (c.in_ok-graph.ensures, c.as_slice.ensures) at c.in_ok-set.ensures;
      chains = chains;
      listed = rw (c.in_ok-graph.ensures, c.as_slice-2.ensures) at c.in_ok-listed.ensures;
      shares = shares;
      planned = rw c.as_slice-units.ensures at c.in_ok-shares.ensures.plan;
      reports = rw c.as_slice-units.ensures at h;
    }) c.plan_text.ensures
