use Rattle.std.proofs.Common.{arith}
use Rattle.std.proofs.lemmas.Result.{err_from_is_err_and}
use Rattle.class_pool.proofs.Loops.{counted_on, counted_fails, counted_done}
use Rattle.class_reader.proofs.reading.counted.Goals as goal

pub returns-in_err-part : goal.returns-in_err-part
returns-in_err-part g c =
    let p = err_from_is_err_and c.from_residual.result c.from_residual.ensures.1 in
    rw (p.1, p.2) (counted_fails c.in_err-part.field-0.0 (λ _ _ b. g.R.Reads.reads c.args.reader.now b) c.loop-i.parts c.args.count c.loop-i.i c.loop-i.rest.now _ c.loop-i-test.true c.in_err-part.ensures c.loop-i.invariant)

pub loop-i-preserved : goal.loop-i-preserved
loop-i-preserved g c = rw c.in_ok-push.ensures.pushed (counted_on (λ _ _ b. g.R.Reads.reads c.args.reader.now b) c.loop-i.parts c.args.count c.loop-i.i c.loop-i.rest.now (c.in_ok-part.part, c.in_ok-part.next.now) _ c.loop-i-test.true c.in_ok-part.ensures c.loop-i.invariant)

pub returns : goal.returns
returns g c = counted_done (λ _ _ b. g.R.Reads.reads c.args.reader.now b) c.loop-i.parts c.args.count c.loop-i.i c.loop-i.rest.now _ (omega arith) c.loop-i.invariant
