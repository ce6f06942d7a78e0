use Rattle.std.proofs.lemmas.Result.{err_from_is_err_and}
use Rattle.electrictest.proofs.{AskedFor.of_suite_alone, LoadLaws.answers_all, LoadLaws.not_loaded}
use Rattle.electrictest.proofs.threaded.suite_text.Goals as goal

pub returns-in_err-loaded-clause-answers : goal.returns-in_err-loaded-clause-answers
returns-in_err-loaded-clause-answers g c =
    let p = err_from_is_err_and c.from_residual.result c.from_residual.ensures.1 in
    rw (p.1, p.2) (not_loaded c.args.ask.now (g.D.Depot.shown c.args.depot.now) (g.D.Depot.shown c.load_for.new.depot) c.load_for.ensures.told c.load_for.ensures.faults c.args.steps.now c.in_err-loaded.field-0.0 c.in_err-loaded.ensures.refused c.in_err-loaded.ensures.ends)

pub returns-clause-answers : goal.returns-clause-answers
returns-clause-answers g c =
    answers_all c.args.ask.now c.in_ok-loaded.loaded (g.D.Depot.shown c.args.depot.now) (g.D.Depot.shown c.load_for.new.depot) (g.D.Depot.shown c.text_for.new.depot)
    c.load_for.ensures.told c.load_for.ensures.faults c.in_ok-loaded.ensures.loads c.args.steps.now c.text_for.new.steps c.text_for.result c.text_for.ensures

pub returns-clause-generated : goal.returns-clause-generated
returns-clause-generated g c = of_suite_alone _ c.args.ask.now.command c.requires.over
