use Rattle.std.proofs.Common.{◌∙◌, ℕ, List, sym, subst, arith}
use Rattle.worker_pool.specs.Plans.{AreTests, HaveTests}
use Rattle.worker_pool.proofs.Tests.{chain_in}
use Rattle.worker_pool.proofs.chain_jobs.ChainJobsJobs.take.Goals as goal

pub run_chain-requires-clause-tests : goal.run_chain-requires-clause-tests
run_chain-requires-clause-tests g c =
    let p = g.N.PoolName.program in
    let s = c.args.self.now in
    let have = subst (λ (z : List (List ℕ)). HaveTests p z) (sym s.chains_of) s.tests in
    let k = c.index-self-number in
    subst (λ (z : List ℕ). AreTests p z) (k.is ∙ sym c.as_slice-tests.ensures) (chain_in p s.chains.now c.args.number k.result have (omega (arith, c.if-number-self.false)) k.is)
