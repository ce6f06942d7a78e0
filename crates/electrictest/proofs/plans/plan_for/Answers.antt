use Rattle.std.proofs.Common.{Ok, true, refl, arith}
use Rattle.std.proofs.lemmas.Result.{err_from_is_err_and}
use Rattle.electrictest.specs.declared.words.Command.TheVariants as command
use Rattle.electrictest.specs.{Loads.Begins, Loads.LoadsFor, Plans.IsPlanned, Records.beginning, Selections.selected, Words.word_at}
use Rattle.electrictest.proofs.{Answering.no_memory, Answering.reported_by, AskedFor.formed_as, AskedFor.named_as, AskedFor.reports_as}
use Rattle.electrictest.proofs.plans.plan_for.Goals as goal

pub begin-requires-clause-named : goal.begin-requires-clause-named
begin-requires-clause-named g c =
    let a = c.args.ask.now in
    let l = c.args.loaded.now in
    let named = selected l.names (word_at a.words 4) in
    (named, named_as (command.Plan c.args.workers) a l named c.requires.asks (record { by = refl; fits = refl; formed = refl }))

pub returns-in_err-begun : goal.returns-in_err-begun
returns-in_err-begun g c = λ steps.
    let p = err_from_is_err_and c.from_residual.result c.from_residual.ensures.1 in
    rw (p.1, p.2) (c.in_err-begun.ensures.refused steps)

pub returns-in_err-text : goal.returns-in_err-text
returns-in_err-text g c = λ steps.
    let p = err_from_is_err_and c.from_residual-in_err-text.result c.from_residual-in_err-text.ensures.1 in
    rw (p.1, p.2) (no_memory (λ files. LoadsFor files c.args.ask.now (Ok c.args.loaded.now)) c.args.ask.now _ _ c.begin.ensures.told c.begin.ensures.faults steps steps)

pub returns : goal.returns
returns g c = λ steps.
    let a = c.args.ask.now in
    let l = c.args.loaded.now in
    let text = c.in_ok-text.text in
    reported_by (λ files. LoadsFor files a (Ok l)) a _ _ c.begin.ensures.told c.begin.ensures.faults steps steps _
    (λ files may load.
    let begins : Begins files a l (Ok (beginning c.in_ok-begun.begun)) = record { load = load; begins = c.in_ok-begun.ensures.begins files may } in
    let report : IsPlanned files a c.args.workers true text 0 = record { loaded = l; beginning = beginning c.in_ok-begun.begun; begins = begins; report = c.in_ok-text.ensures; ends = refl; free = refl } in
    record { units = 0; report = reports_as (Ok (command.Plan c.args.workers)) files a true text 0 c.requires.asks report; counts = omega arith })
    (formed_as (command.Plan c.args.workers) a c.requires.asks)
