use Rattle.std.proofs.Common.{refl}
use Rattle.std.proofs.lemmas.Result.{err_from_is_err_and}
use Rattle.electrictest.specs.declared.words.Command.TheVariants as command
use Rattle.electrictest.specs.{Records.beginning, Selections.ordered, Words.word_at}
use Rattle.electrictest.proofs.{Answering.order_answers, AskedFor.named_as}
use Rattle.electrictest.proofs.orders.order_for.Goals as goal

pub begin-requires-clause-named : goal.begin-requires-clause-named
begin-requires-clause-named g c =
    let a = c.args.ask.now in
    let l = c.args.loaded.now in
    let named = ordered l.names (word_at a.words 3) in
    (named, named_as command.Order a l named c.requires.asks (record { by = refl; fits = refl; formed = refl }))

pub returns-in_err-begun : goal.returns-in_err-begun
returns-in_err-begun g c =
    let p = err_from_is_err_and c.from_residual.result c.from_residual.ensures.1 in
    rw (p.1, p.2) (c.in_err-begun.ensures.refused c.args.steps.now)

pub returns : goal.returns
returns g c =
    order_answers c.args.ask.now c.args.loaded.now c.requires.asks (g.D.Depot.shown c.args.depot.now) (g.D.Depot.shown c.begin.new.depot) c.begin.ensures.told c.begin.ensures.faults c.args.steps.now c.order_of.new.steps
    (beginning c.in_ok-begun.begun) c.in_ok-begun.ensures.begins c.in_ok-begun.ensures.suite c.order_of.result c.order_of.ensures.reports c.order_of.ensures.refused
