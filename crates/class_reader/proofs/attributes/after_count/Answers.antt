use Rattle.std.proofs.Common.{arith}
use Rattle.std.proofs.lemmas.Result.{err_from_is_err_and}
use Rattle.class_reader.specs.Class.{skipped_at}
use Rattle.class_pool.proofs.Loops.{folded_on, folded_fails, folded_done}
use Rattle.class_reader.proofs.attributes.after_count.Goals as goal

pub returns-in_err-next : goal.returns-in_err-next
returns-in_err-next c =
    let p = err_from_is_err_and c.from_residual.result c.from_residual.ensures.1 in
    rw (p.1, p.2) (folded_fails c.in_err-next.field-0.0 (λ _ b. skipped_at c.args.pool.now b) tt _ c.loop-i.i c.loop-i.rest.now _ c.loop-i-test.true c.in_err-next.ensures c.loop-i.invariant)

pub loop-i-preserved : goal.loop-i-preserved
loop-i-preserved c = folded_on (λ _ b. skipped_at c.args.pool.now b) tt _ c.loop-i.i c.loop-i.rest.now (tt, c.in_ok-next.next.now) _ c.loop-i-test.true c.in_ok-next.ensures c.loop-i.invariant

pub returns : goal.returns
returns c = folded_done (λ _ b. skipped_at c.args.pool.now b) tt _ c.loop-i.i c.loop-i.rest.now _ (omega arith) c.loop-i.invariant
