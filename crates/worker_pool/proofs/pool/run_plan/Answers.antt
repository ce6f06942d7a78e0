use Rattle.std.proofs.Common.{arith}
use Rattle.worker_pool.proofs.Tests.{few_events, few_of_events}
use Rattle.worker_pool.proofs.pool.run_plan.Goals as goal

pub overflow_cast-chains : goal.overflow_cast-chains
overflow_cast-chains g c =
    let few = few_events c.args.p.now c.args.c.now.lists c.program-program.ensures.typed.linked.few_tests c.args.c.now.form c.requires.tests in
    omega (arith, few, few_of_events c.args.c.now.lists)

pub finish-requires-clause-tests : goal.finish-requires-clause-tests
finish-requires-clause-tests g c =
    let same = c.in_ok-core.ensures in
    rw (same.0, same.1) c.requires.tests
