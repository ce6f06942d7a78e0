use Rattle.std.proofs.Common.{Ok, refl}
use Rattle.std.proofs.lemmas.Result.{err_from_is_err_and}
use Rattle.order_law.specs.Conflicts.{Member}
use Rattle.electrictest.specs.declared.words.Command.TheVariants as command
use Rattle.electrictest.specs.{ConeRuns.IsConeReport, ConeRuns.IsOverCone, Records.beginning, Selections.selected, Words.word_at}
use Rattle.electrictest.proofs.{Answering.begun_answers, AskedFor.may_report, AskedFor.named_as}
use Rattle.electrictest.proofs.cone_runs.cones_for.Goals as goal

pub begin-requires-clause-named : goal.begin-requires-clause-named
begin-requires-clause-named g c =
    let a = c.args.ask.now in
    let l = c.args.loaded.now in
    let named = selected l.names (word_at a.words 4) in
    (named, named_as (command.Cones c.args.workers) a l named c.requires.asks (record { by = refl; fits = refl; formed = refl }))

pub returns-in_err-begun : goal.returns-in_err-begun
returns-in_err-begun g c =
    let p = err_from_is_err_and c.from_residual.result c.from_residual.ensures.1 in
    rw (p.1, p.2) (c.in_err-begun.ensures.refused c.args.steps.now)

pub returns : goal.returns
returns g c =
    let l = c.args.loaded.now in
    let old = g.D.Depot.shown c.args.depot.now in
    let new = g.D.Depot.shown c.begin.new.depot in
    let b = beginning c.in_ok-begun.begun in
    begun_answers (command.Cones c.args.workers) c.args.ask.now l c.requires.asks old new c.begin.ensures.told c.begin.ensures.faults c.args.steps.now c.cones_of.new.steps b c.in_ok-begun.ensures.begins c.in_ok-begun.ensures.suite
    IsConeReport (λ x y. IsOverCone x y (λ t. Member t y.tests)) c.cones_of.result refl (λ files passed text units is. is) (λ files f is. is)
    (λ passed text units is. may_report (Ok (command.Cones c.args.workers)) passed (command.Cones c.args.workers, refl, refl)) c.cones_of.ensures.reports c.cones_of.ensures.refused
