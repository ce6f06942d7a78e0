use Rattle.std.proofs.Common.{[], Ok, ap, refl}
use Rattle.std.proofs.lemmas.Result.{err_from_is_err_and}
use Rattle.electrictest.specs.declared.words.Command.TheVariants as command
use Rattle.electrictest.specs.{Loads.LoadsFor, Loads.fits_for, Loads.named_by, Records.nameless}
use Rattle.electrictest.proofs.{Answering.no_memory, Answering.reported_by, AskedFor.formed_as, ImpactLaws.impact_reports, Request.begins, Request.not_begun}
use Rattle.electrictest.proofs.impacts.impact_for.Goals as goal

pub returns-in_err-record : goal.returns-in_err-record
returns-in_err-record g c = λ steps.
    let a = c.args.ask.now in
    let l = c.args.loaded.now in
    let p = err_from_is_err_and c.from_residual.result c.from_residual.ensures.1 in
    rw (p.1, p.2) (not_begun a l (Ok []) [] c.record.result.now c.in_err-record.field-0.0 (g.D.Depot.shown c.args.depot.now) (g.D.Depot.shown c.earlier_record.new.depot) steps c.earlier_record.ensures.told c.earlier_record.ensures.faults
    (ap fits_for c.requires.asks) (ap (λ o. named_by o a.words l) c.requires.asks) refl c.record.ensures c.in_err-record.ensures.gives c.in_err-record.ensures.fails)

pub returns-in_err-text : goal.returns-in_err-text
returns-in_err-text g c = λ steps.
    let p = err_from_is_err_and c.from_residual-in_err-text.result c.from_residual-in_err-text.ensures.1 in
    rw (p.1, p.2) (no_memory (λ files. LoadsFor files c.args.ask.now (Ok c.args.loaded.now)) c.args.ask.now _ _ c.earlier_record.ensures.told c.earlier_record.ensures.faults steps steps)

pub returns : goal.returns
returns g c = λ steps.
    let a = c.args.ask.now in
    let l = c.args.loaded.now in
    let r = c.in_ok-record.record in
    let told = (g.D.Depot.shown c.earlier_record.new.depot).told in
    reported_by (λ files. LoadsFor files a (Ok l)) a _ _ c.earlier_record.ensures.told c.earlier_record.ensures.faults steps steps _
    (impact_reports told a l r c.in_ok-text.text steps c.requires.asks
    (begins told a l (Ok []) [] c.record.result.now (nameless r) (ap fits_for c.requires.asks) (ap (λ o. named_by o a.words l) c.requires.asks) refl c.record.ensures c.in_ok-record.ensures.gives) c.in_ok-record.ensures.fits c.in_ok-text.ensures)
    (formed_as command.Impact a c.requires.asks)
