use Rattle.std.proofs.Common.{◌+◌, ◌-◌, refl, arith}
use Rattle.std.proofs.lemmas.Result.{err_from_is_err_and}
use Rattle.dep_record.specs.{Fields.units_of, RecordReading.pieces}
use Rattle.dep_record.proofs.LineLaws.{lines_begin, lines_go_on, lines_fail, lines_done}
use Rattle.dep_record.proofs.reading.all_units_at.Goals as goal

pub loop-index-init : goal.loop-index-init
loop-index-init c = lines_begin units_of c.new-units.result c.args.tests (c.args.tests - 0) c.args.first (c.args.first + 0) (pieces c.args.text.now) c.new-units.ensures (omega arith) (omega arith)

pub returns-in_err-of_test : goal.returns-in_err-of_test
returns-in_err-of_test c =
    let p = err_from_is_err_and c.from_residual.result c.from_residual.ensures.1 in
    let i = c.loop-index.index in
    let below = c.loop-index-test.true in
    rw (p.1, p.2) (lines_fail units_of c.loop-index.units (c.args.tests - i) (c.args.tests - (i + 1)) (i + 1) (c.args.first + i) (pieces c.loop-index.left.now) _ _ (omega arith) c.in_err-of_test.ensures c.loop-index.invariant)

pub loop-index-preserved : goal.loop-index-preserved
loop-index-preserved c =
    let i = c.loop-index.index in
    let below = c.loop-index-test.true in
    rw c.in_ok-push.ensures.pushed
    (lines_go_on units_of c.loop-index.units (c.args.tests - i) (c.args.tests - (i + 1)) (i + 1) (i + 1 + 1) (c.args.first + i) (c.args.first + (i + 1)) (pieces c.loop-index.left.now) (pieces c.in_ok-of_test.rest.now) c.in_ok-of_test.of_test _
    (omega arith) refl (omega arith) c.in_ok-of_test.ensures c.loop-index.invariant)

pub returns : goal.returns
returns c =
    let i = c.loop-index.index in
    let past = c.loop-index-test.false in
    lines_done units_of c.loop-index.units (c.args.tests - i) (i + 1) (c.args.first + i) (pieces c.loop-index.left.now) _ (omega arith) c.loop-index.invariant
