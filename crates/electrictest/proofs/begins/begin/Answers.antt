use Rattle.std.proofs.Common.{Ok, Err}
use Rattle.std.proofs.lemmas.Result.{err_from_is_err_and}
use Rattle.electrictest.specs.{Loads.named_by, Records.beginning}
use Rattle.electrictest.proofs.{ChosenLaws.is_of_suite, PlanLaws.tests_have}
use Rattle.electrictest.proofs.Request.{begins, named_gives, not_begun, tests_are, unnamed}
use Rattle.electrictest.proofs.begins.begin.Goals as goal

pub returns-in_err-tests-clause-refused : goal.returns-in_err-tests-clause-refused
returns-in_err-tests-clause-refused g c = λ steps.
    let a = c.args.ask.now in
    let l = c.args.loaded.now in
    let n = c.requires.named in
    let p = err_from_is_err_and c.from_residual.result c.from_residual.ensures.1 in
    rw (p.1, p.2) (unnamed a l n.0 c.in_err-tests.field-0.0 (g.D.Depot.shown c.args.depot.now) steps n.1.by (named_gives (Err c.in_err-tests.field-0.0) (named_by a.command a.words l) n.0 n.1.by c.in_err-tests.ensures.gives) c.in_err-tests.ensures.proper)

pub returns-in_err-begun-clause-refused : goal.returns-in_err-begun-clause-refused
returns-in_err-begun-clause-refused g c = λ steps.
    let a = c.args.ask.now in
    let l = c.args.loaded.now in
    let n = c.requires.named in
    let p = err_from_is_err_and c.from_residual-in_err-begun.result c.from_residual-in_err-begun.ensures.1 in
    rw (p.1, p.2) (not_begun a l n.0 c.in_ok-tests.tests c.record.result.now c.in_err-begun.field-0.0 (g.D.Depot.shown c.args.depot.now) (g.D.Depot.shown c.begin_with.new.depot) steps c.begin_with.ensures.told c.begin_with.ensures.faults n.1.fits n.1.by
    (named_gives (Ok c.in_ok-tests.tests) (named_by a.command a.words l) n.0 n.1.by c.in_ok-tests.ensures.gives) c.record.ensures c.in_err-begun.ensures.gives c.in_err-begun.ensures.fails)

pub returns-clause-begins : goal.returns-clause-begins
returns-clause-begins g c =
    let a = c.args.ask.now in
    let l = c.args.loaded.now in
    let n = c.requires.named in
    begins (g.D.Depot.shown c.begin_with.new.depot).told a l n.0 c.in_ok-tests.tests c.record.result.now (beginning c.in_ok-begun.begun) n.1.fits n.1.by
    (named_gives (Ok c.in_ok-tests.tests) (named_by a.command a.words l) n.0 n.1.by c.in_ok-tests.ensures.gives) c.record.ensures c.in_ok-begun.ensures.gives

pub returns-clause-suite : goal.returns-clause-suite
returns-clause-suite g c =
    is_of_suite c.args.loaded.now c.in_ok-tests.tests c.in_ok-begun.begun c.requires.suite c.program-program.ensures.typed.linked c.in_ok-begun.ensures.tests c.in_ok-tests.ensures.tests c.in_ok-begun.ensures.units

pub returns-clause-tests : goal.returns-clause-tests
returns-clause-tests g c = tests_are c.args.loaded.now c.in_ok-tests.tests c.in_ok-begun.begun.tests c.requires.suite c.in_ok-begun.ensures.tests c.in_ok-tests.ensures.tests

pub returns-clause-units : goal.returns-clause-units
returns-clause-units g c =
    tests_have c.args.loaded.now c.in_ok-tests.tests c.in_ok-begun.begun.tests c.in_ok-begun.begun.record.units c.requires.suite c.in_ok-begun.ensures.tests c.in_ok-tests.ensures.tests c.in_ok-begun.ensures.units
