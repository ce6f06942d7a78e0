use Rattle.std.proofs.Common.{◌∙◌, sym, subst, slice_index_or, arith}
use Rattle.jvm_model.specs.declared.program.Program.{Program}
use Rattle.order_law.specs.Histories.{IsTestNumber}
use Rattle.worker_pool.proofs.Tests.{member_at}
use Rattle.worker_pool.proofs.chain_jobs.run_chain.Goals as goal

pub run_test-requires-clause-test : goal.run_test-requires-clause-test
run_test-requires-clause-test g c =
    let tests = c.args.tests.now in
    let k = c.loop-index.index in
    subst (λ (p : Program). IsTestNumber p (slice_index_or tests k 0)) (sym (c.loop-index.invariant.0 ∙ c.requires.program)) (c.requires.tests (slice_index_or tests k 0) (member_at tests k 0 (omega (arith, c.loop-index-test.true))))
