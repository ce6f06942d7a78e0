use Rattle.std.proofs.Common.{refl}
use Rattle.std.proofs.lemmas.Result.{err_from_is_err_and}
use Rattle.worker_pool.specs.Plans.{units_of}
use Rattle.electrictest.proofs.GeneratedLaws.{whole_has, units_count, run_unsummed, pool_unsummed, sums_of}
use Rattle.electrictest.proofs.generated.summary_for.Goals as goal

pub run_pool-requires-clause-tests : goal.run_pool-requires-clause-tests
run_pool-requires-clause-tests g c = λ κs outlive t m. whole_has c.in_ok-loaded.loaded c.in_ok-begun.begun c.in_ok-loaded.ensures.suite c.in_ok-begun.ensures.whole c.in_ok-begun.ensures.tests t m

pub run_pool-requires-clause-units : goal.run_pool-requires-clause-units
run_pool-requires-clause-units g c = λ κs outlive. units_count c.in_ok-loaded.loaded c.in_ok-begun.begun.record c.in_ok-begun.ensures.whole.own

pub returns-in_err-begun-clause-refused : goal.returns-in_err-begun-clause-refused
returns-in_err-begun-clause-refused g c =
    let p = err_from_is_err_and c.from_residual-in_err-begun.result c.from_residual-in_err-begun.ensures.1 in
    rw (p.1, p.2) (run_unsummed c.run_law.ensures c.args.tests c.requires.few c.in_ok-loaded.loaded c.in_err-begun.field-0.0 c.in_ok-loaded.ensures.loads c.in_err-begun.ensures.refused)

pub returns-in_err-pooled-clause-refused : goal.returns-in_err-pooled-clause-refused
returns-in_err-pooled-clause-refused g c =
    let p = err_from_is_err_and c.from_residual-in_err-pooled.result c.from_residual-in_err-pooled.ensures.1 in
    rw (p.1, p.2) (pool_unsummed c.in_ok-loaded.loaded c.in_ok-begun.begun c.in_err-pooled.field-0.0 c.in_ok-loaded.ensures.suite c.program-program.ensures.typed.linked c.in_ok-begun.ensures.whole c.in_ok-begun.ensures.tests c.in_err-pooled.ensures.refused)

pub returns-in_err-report-clause-refused : goal.returns-in_err-report-clause-refused
returns-in_err-report-clause-refused g c =
    let p = err_from_is_err_and c.from_residual-in_err-report.result c.from_residual-in_err-report.ensures.1 in
    rw (p.1, p.2) refl

pub returns-clause-reports : goal.returns-clause-reports
returns-clause-reports g c =
    let r = c.in_ok-report.report in
    sums_of c.run_law.ensures c.record_law.ensures c.chain_law.ensures c.args.tests c.args.workers c.requires.few c.in_ok-loaded.loaded c.in_ok-begun.begun r.passed r.text (units_of c.in_ok-pooled.pooled.core.events) c.args.steps.now c.begun_of.new.steps c.run_pool.new.steps
    c.in_ok-loaded.ensures.loads c.in_ok-loaded.ensures.suite c.program-program.ensures.typed.linked c.in_ok-begun.ensures.whole c.in_ok-begun.ensures.tests c.in_ok-begun.ensures.counted c.in_ok-pooled.ensures.units c.in_ok-report.ensures
