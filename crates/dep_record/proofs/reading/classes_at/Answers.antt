use Rattle.std.proofs.Common.{◌+◌, ◌-◌, refl, arith}
use Rattle.std.proofs.lemmas.Result.{err_from_is_err_and}
use Rattle.dep_record.specs.{Fields.class_of, RecordReading.pieces}
use Rattle.dep_record.proofs.LineLaws.{lines_begin, lines_go_on, lines_fail, lines_done}
use Rattle.dep_record.proofs.reading.classes_at.Goals as goal

pub loop-index-init : goal.loop-index-init
loop-index-init c = lines_begin class_of c.new-classes.result c.args.count (c.args.count - 0) 6 6 (pieces c.args.text.now) c.new-classes.ensures (omega arith) (omega arith)

pub returns-in_err-class : goal.returns-in_err-class
returns-in_err-class c =
    let p = err_from_is_err_and c.from_residual.result c.from_residual.ensures.1 in
    let i = c.loop-index.index in
    let below = c.loop-index-test.true in
    rw (p.1, p.2) (lines_fail class_of c.loop-index.classes (c.args.count - i) (c.args.count - (i + 1)) (i + 1) (6 + i) (pieces c.loop-index.left.now) _ _ (omega arith) c.in_err-class.ensures c.loop-index.invariant)

pub loop-index-preserved : goal.loop-index-preserved
loop-index-preserved c =
    let i = c.loop-index.index in
    let below = c.loop-index-test.true in
    rw c.in_ok-push.ensures.pushed
    (lines_go_on class_of c.loop-index.classes (c.args.count - i) (c.args.count - (i + 1)) (i + 1) (i + 1 + 1) (6 + i) (6 + (i + 1)) (pieces c.loop-index.left.now) (pieces c.in_ok-class.rest.now) c.in_ok-class.class _
    (omega arith) refl (omega arith) c.in_ok-class.ensures c.loop-index.invariant)

pub returns : goal.returns
returns c =
    let i = c.loop-index.index in
    let past = c.loop-index-test.false in
    lines_done class_of c.loop-index.classes (c.args.count - i) (i + 1) (6 + i) (pieces c.loop-index.left.now) _ (omega arith) c.loop-index.invariant
