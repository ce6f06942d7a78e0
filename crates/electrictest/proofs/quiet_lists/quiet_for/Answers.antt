use Rattle.std.proofs.Common.{Ok, true, refl, arith}
use Rattle.std.proofs.lemmas.Result.{err_from_is_err_and}
use Rattle.electrictest.specs.Loads.{LoadsFor}
use Rattle.electrictest.specs.declared.words.Command.TheVariants as command
use Rattle.electrictest.proofs.{Answering.no_memory, Answering.reported_by, AskedFor.formed_as, AskedFor.reports_as}
use Rattle.electrictest.proofs.quiet_lists.quiet_for.Goals as goal

pub returns-in_err-text : goal.returns-in_err-text
returns-in_err-text c = λ a depot steps e.
    let p = err_from_is_err_and c.from_residual.result c.from_residual.ensures.1 in
    rw (p.1, p.2) (no_memory (λ files. LoadsFor files a (Ok c.args.loaded.now)) a depot depot (λ files may. may) (omega arith) steps steps)

pub returns : goal.returns
returns c = λ a depot steps e.
    let l = c.args.loaded.now in
    reported_by (λ files. LoadsFor files a (Ok l)) a depot depot (λ files may. may) (omega arith) steps steps _
    (λ files may load. record { units = 0; report = reports_as (Ok command.Quiet) files a true c.in_ok-text.text 0 e (record { loaded = l; load = load; is = (c.in_ok-text.ensures, refl, refl) }); counts = omega arith })
    (formed_as command.Quiet a e)
