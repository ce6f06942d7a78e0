use Rattle.std.proofs.Common.{◌∙◌}
use Rattle.electrictest.proofs.ChosenLaws.{units_are_tests, chains_have_tests}
use Rattle.electrictest.proofs.pool_runs.run_pool.Goals as goal

pub run_plan-planned-requires-clause-tests : goal.run_plan-planned-requires-clause-tests
run_plan-planned-requires-clause-tests g c = λ κs outlive i t m.
    let p = c.args.loaded.now.checked in
    let chosen = c.in_ok-chosen.chosen in
    let r = c.args.begun.now.record in
    chains_have_tests p r.edges chosen.set chosen.chains.lists c.in_ok-chosen.ensures.chosen.listed (units_are_tests p chosen.set r.units c.requires.units c.in_ok-chosen.ensures.units) i t m

pub returns-in-Ok-clause-pooled : goal.returns-in-Ok-clause-pooled
returns-in-Ok-clause-pooled g c =
    let p = c.args.loaded.now.checked in
    let chosen = c.in_ok-chosen.chosen in
    let h = c.in_ok-chosen.ensures in
    record {
      chosen = h.chosen;
      tests = units_are_tests p chosen.set c.args.begun.now.record.units c.requires.units h.units;
      program = c.in-Ok.ensures.run.0;
      chains = c.in-Ok.ensures.run.1;
      many = c.in-Ok.ensures.run.2 ∙ h.workers;
      legal = c.in-Ok.ensures.whole.0;
      complete = c.in-Ok.ensures.whole.1;
    }
