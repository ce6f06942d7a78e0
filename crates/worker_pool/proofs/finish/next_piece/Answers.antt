use Rattle.std.proofs.Common.{◌∙◌, ℕ, List, reverse, sym, subst}
use Rattle.order_law.specs.Plan.{posts}
use Rattle.run_core.specs.Run.{history}
use Rattle.test_run.specs.declared.run_fault.RunFault.{RunFault}
use Rattle.worker_pool.specs.{Faults.IsRunFault, Plans.IsStop}
use Rattle.worker_pool.proofs.Tests.{posted_tests, posts_give, open_test, stops}
use Rattle.worker_pool.proofs.finish.next_piece.Goals as goal

pub run_again-requires-clause-tests : goal.run_again-requires-clause-tests
run_again-requires-clause-tests g c =
    let k = c.args.core.now in
    posted_tests k.program k.chains k.workers (history k) c.args.worker c.history-events.ensures.legal c.requires.tests

pub run_again-requires-clause-given : goal.run_again-requires-clause-given
run_again-requires-clause-given g c =
    let k = c.args.core.now in
    posts_give k.program k.chains k.workers (history k) c.args.worker c.history-events.ensures.legal

pub run_again-requires-clause-test : goal.run_again-requires-clause-test
run_again-requires-clause-test g c =
    let k = c.args.core.now in
    open_test k.program k.chains (history k) c.args.worker c.requires.open.0 c.args.test c.requires.tests c.requires.open.1

pub returns-in_ok-from_slice-in-Err-OverBudget-clause-fault : goal.returns-in_ok-from_slice-in-Err-OverBudget-clause-fault
returns-in_ok-from_slice-in-Err-OverBudget-clause-fault g c =
    let k = c.args.core.now in
    let w = c.args.worker in
    let t = c.args.test in
    let o = c.in-Err-OverBudget in
    let x = c.requires.open in
    let none = subst (λ (e : RunFault). IsRunFault k.program (reverse (posts (history k) w)) t e) o.field-0-is o.ensures.fault in
    subst (λ (z : List ℕ). IsStop k.program k.chains k.workers w t z) (sym (c.in_ok-from_slice-in-Err-OverBudget.ensures ∙ c.posts.ensures))
    (stops k.program k.chains k.workers (history k) w x.0 t c.requires.form c.history-events.ensures.legal x.1 none)
