use Rattle.electrictest.proofs.{ChosenLaws.closure_has, PlanLaws.chains_have, PlanLaws.units_small}
use Rattle.electrictest.proofs.pool_runs.choose.Goals as goal

pub plan-requires-clause-listed : goal.plan-requires-clause-listed
plan-requires-clause-listed c =
    rw c.as_slice-4.ensures (chains_have 1024 _ c.args.begun.now.tests c.in_ok-set.set c.args.begun.now.record.units _ c.goes_up.ensures c.requires.tests (rw c.as_slice-2.ensures at c.in_ok-set.ensures) (rw c.as_slice-3.ensures at c.in_ok-listed.ensures))

pub plan-requires-clause-small : goal.plan-requires-clause-small
plan-requires-clause-small c = let r = c.args.begun.now.record in rw c.as_slice-4.ensures (units_small r.units r.edges r.form)

pub returns-clause-chosen : goal.returns-clause-chosen
returns-clause-chosen c = record {
  closure = rw (c.in_ok-graph.ensures, c.as_slice-2.ensures) at c.in_ok-set.ensures;
  listed = rw (c.in_ok-graph.ensures, c.as_slice-3.ensures) at c.in_ok-listed.ensures;
  once = c.in_ok-once.once;
  differ = rw c.as_slice.ensures at c.in_ok-once.ensures;
  many = c.len.ensures;
}

pub returns-clause-units : goal.returns-clause-units
returns-clause-units c =
    closure_has 1024 _ c.args.begun.now.tests c.in_ok-set.set c.args.begun.now.record.units c.goes_up.ensures (rw c.as_slice-2.ensures at c.in_ok-set.ensures) c.requires.tests

pub returns-clause-planned : goal.returns-clause-planned
returns-clause-planned c = rw c.as_slice-4.ensures at c.in_ok-shares.ensures.plan
