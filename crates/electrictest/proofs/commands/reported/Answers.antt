use Rattle.std.proofs.lemmas.Result.{err_from_is_err_and}
use Rattle.electrictest.proofs.{AskedFor.served_over, LoadLaws.answers_all, LoadLaws.not_loaded}
use Rattle.electrictest.proofs.commands.reported.Goals as goal

pub returns-in_err-loaded : goal.returns-in_err-loaded
returns-in_err-loaded g c =
    let p = err_from_is_err_and c.from_residual.result c.from_residual.ensures.1 in
    rw (p.1, p.2) (not_loaded c.args.ask.now (g.D.Depot.shown c.args.depot.now) (g.D.Depot.shown c.load_for.new.depot) c.load_for.ensures.told c.load_for.ensures.faults c.args.steps.now c.in_err-loaded.field-0.0 c.in_err-loaded.ensures.refused c.in_err-loaded.ensures.ends)

pub returns : goal.returns
returns g c =
    answers_all c.args.ask.now c.in_ok-loaded.loaded (g.D.Depot.shown c.args.depot.now) (g.D.Depot.shown c.load_for.new.depot) (g.D.Depot.shown c.report_for.new.depot)
    c.load_for.ensures.told c.load_for.ensures.faults c.in_ok-loaded.ensures.loads c.args.steps.now c.report_for.new.steps c.report_for.result c.report_for.ensures

pub load_for-requires : goal.load_for-requires
load_for-requires g c = record { over = served_over c.args.ask.now.command c.requires.served }
