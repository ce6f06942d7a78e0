use Rattle.std.proofs.lemmas.Result.{err_from_is_err_and}
use Rattle.electrictest.proofs.Request.{proper_fails}
use Rattle.electrictest.proofs.recorded.earlier_record.Goals as goal

pub returns-in_err-earlier_fits-clause-fails : goal.returns-in_err-earlier_fits-clause-fails
returns-in_err-earlier_fits-clause-fails g c =
    let p = err_from_is_err_and c.from_residual-in_err-earlier_fits.result c.from_residual-in_err-earlier_fits.ensures.1 in
    rw (p.1, p.2) (proper_fails c.args.name.now c.in_err-earlier_fits.field-0.0 (g.D.Depot.shown c.args.depot.now) (g.D.Depot.shown c.record_at.new.depot) c.in_err-earlier_fits.ensures.proper)
