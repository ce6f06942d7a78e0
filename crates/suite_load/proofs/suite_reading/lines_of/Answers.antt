use Rattle.std.proofs.Common.{◌<◌, length, sym, ap, ◌∙◌}
use Rattle.std.proofs.lemmas.Result.{err_from_is_err_and}
use Rattle.suite_load.specs.{LineForms.rows, SuiteForm.lines_from}
use Rattle.suite_load.proofs.LineLaws.{lines_go_on, lines_fail, lines_end, whole_fails, whole_done, rest_shorter}
use Rattle.suite_load.proofs.suite_reading.lines_of.Goals as goal

pub returns-in_err-line : goal.returns-in_err-line
returns-in_err-line c =
    let p = err_from_is_err_and c.from_residual.result c.from_residual.ensures.1 in
    rw (p.1, p.2) (lines_fail _ c.loop-rest.before c.loop-rest.rest.now _ (sym c.is_empty.ensures ∙ c.loop-rest-test.true) c.in_err-line.ensures.gives c.loop-rest.invariant)

pub returns-in_err-wants : goal.returns-in_err-wants
returns-in_err-wants c =
    let p = err_from_is_err_and c.from_residual-in_err-wants.result c.from_residual-in_err-wants.ensures.1 in
    let ended = lines_end c.loop-rest.before c.loop-rest.rest.now _ (sym c.is_empty.ensures ∙ c.loop-rest-test.false) c.loop-rest.invariant in
    rw (p.1, p.2) (whole_fails _ c.loop-rest.before _ (rw (c.is_ended.ensures, c.missing.ensures) at c.in_err-wants.ensures.gives) ended)

pub loop-rest-init : goal.loop-rest-init
loop-rest-init c = ap (λ lines. lines_from lines (rows c.args.text.now)) c.new-before.ensures

pub loop-rest-preserved : goal.loop-rest-preserved
loop-rest-preserved c =
    rw c.in_ok-before.ensures
    (lines_go_on c.loop-rest.before c.in_ok-line.line c.loop-rest.rest.now c.in_ok-line.more.now _ (sym c.is_empty.ensures ∙ c.loop-rest-test.true) c.in_ok-line.ensures.gives c.loop-rest.invariant)

pub loop-rest-smaller : goal.loop-rest-smaller
loop-rest-smaller c =
    let shorter : length c.in_ok-line.more.now < length c.loop-rest.rest.now = rw c.in_ok-line.ensures.rest (rest_shorter c.loop-rest.rest.now (sym c.is_empty.ensures ∙ c.loop-rest-test.true)) in
    shorter

pub returns : goal.returns
returns c =
    whole_done c.loop-rest.before _ (rw (c.is_ended.ensures, c.missing.ensures) at c.in_ok-wants.ensures.gives)
    (lines_end c.loop-rest.before c.loop-rest.rest.now _ (sym c.is_empty.ensures ∙ c.loop-rest-test.false) c.loop-rest.invariant)
