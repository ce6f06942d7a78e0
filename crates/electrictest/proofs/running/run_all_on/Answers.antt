use Rattle.electrictest.proofs.WholeRuns.{ran_whole, counted_whole, refused_whole}
use Rattle.electrictest.proofs.running.run_all_on.Goals as goal

pub returns-in-Ok-clause-ran : goal.returns-in-Ok-clause-ran
returns-in-Ok-clause-ran g c =
    let ok = c.in-Ok in
    ran_whole g.M.Memory.world g.M.Memory.follows c.args.loaded.now c.args.machine.now.memory c.run_suite.new.machine.memory ok.outcomes c.args.steps.now c.run_suite.new.steps ok.ensures.ran
    c.requires.world ok.ensures.within c.requires.typed.linked.few_tests

pub returns-in-Ok-clause-counted : goal.returns-in-Ok-clause-counted
returns-in-Ok-clause-counted g c =
    let ok = c.in-Ok in
    counted_whole g.M.Memory.world g.M.Memory.follows c.args.loaded.now c.args.machine.now.memory c.run_suite.new.machine.memory ok.outcomes c.args.steps.now c.run_suite.new.steps ok.ensures.ran

pub returns-in_ok-status-in-Err-clause-refused : goal.returns-in_ok-status-in-Err-clause-refused
returns-in_ok-status-in-Err-clause-refused g c = refused_whole c.args.loaded.now c.in-Err.fault c.in_ok-status-in-Err.status c.in-Err.ensures.refused c.in_ok-status-in-Err.ensures
