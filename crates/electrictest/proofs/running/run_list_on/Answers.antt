use Rattle.std.proofs.Common.{sym, subst}
use Rattle.electrictest.specs.Running.{ListRefused}
use Rattle.electrictest.proofs.ListRuns.{list_ran, list_refused}
use Rattle.electrictest.proofs.running.run_list_on.Goals as goal

pub returns-in-Ok-clause-ran : goal.returns-in-Ok-clause-ran
returns-in-Ok-clause-ran g c =
    list_ran g.M.Memory.world g.M.Memory.follows c.args.loaded.now c.args.machine.now.program _ _ c.args.tests.now c.in-Ok.outcomes c.args.steps.now c.run_list.new.steps
    c.requires.program c.requires.world c.in-Ok.ensures.ran

pub returns-in_ok-status-in-Err-clause-refused : goal.returns-in_ok-status-in-Err-clause-refused
returns-in_ok-status-in-Err-clause-refused g c =
    let l = c.args.loaded.now in
    let m = c.args.machine.now in
    subst (ListRefused l c.args.tests.now) (sym c.in_ok-status-in-Err.ensures)
    (list_refused l m.program (g.M.Memory.world m.memory) c.args.tests.now c.in-Err.fault c.requires.program c.requires.world c.in-Err.ensures.refused)
