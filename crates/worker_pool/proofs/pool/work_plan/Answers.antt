use Rattle.std.proofs.Common.{ap, arith}
use Rattle.run_core.specs.Run.{most_events}
use Rattle.worker_pool.proofs.Tests.{few_events}
use Rattle.worker_pool.proofs.pool.work_plan.Goals as goal

pub new-requires : goal.new-requires
new-requires g c =
    let few = few_events c.args.p.now c.args.c.now.lists c.program-program.ensures.typed.linked.few_tests c.args.c.now.form c.requires.tests in
    record { few = omega (arith, few, ap most_events c.in_ok-copy_of.ensures) }
