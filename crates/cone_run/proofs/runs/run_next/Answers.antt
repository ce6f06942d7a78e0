use Rattle.std.proofs.Common.{refl}
use Rattle.std.proofs.lemmas.Result.{IfErr-weaker}
use Rattle.cone_run.proofs.RunLaws.{next_fault, ran_after, same_list, same_machine, still_ready}
use Rattle.cone_run.proofs.runs.run_next.Goals as goal

pub returns-clause-ran : goal.returns-clause-ran
returns-clause-ran g c =
    let m = c.args.machine.now in
    let a = (c.memory-memory.ensures.stands c.requires.ready).after in
    ran_after m.program m.list m.memory.world a c.args.test c.run_test.result m.worker m c.run_test.new.self c.run_test.ensures.piece c.run_test.new.self.memory.world c.requires.typed c.requires.test c.run_test.ensures.gives

pub returns-clause-list : goal.returns-clause-list
returns-clause-list g c =
    let m = c.args.machine.now in
    let a = (c.memory-memory.ensures.stands c.requires.ready).after in
    same_list m.program m.list m.memory.world a c.args.test c.run_test.result m.worker m c.run_test.new.self c.run_test.ensures.piece c.run_test.ensures.after refl

pub returns-clause-ready : goal.returns-clause-ready
returns-clause-ready g c = still_ready c.run_test.result c.args.machine.now c.run_test.new.self _ c.run_test.ensures.after c.requires.ready

pub returns-clause-fault : goal.returns-clause-fault
returns-clause-fault g c =
    let m = c.args.machine.now in
    let a = (c.memory-memory.ensures.stands c.requires.ready).after in
    IfErr-weaker c.run_test.result _ _ (λ e r. next_fault m.program m.list m.memory.world a c.args.test e r) c.run_test.ensures.refused

pub returns-clause-same : goal.returns-clause-same
returns-clause-same g c = same_machine c.run_test.result c.args.machine.now c.run_test.new.self _ c.run_test.ensures.after c.run_test.ensures.spent
