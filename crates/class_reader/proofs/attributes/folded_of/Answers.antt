use Rattle.std.proofs.Common.{arith}
use Rattle.std.proofs.lemmas.Result.{err_from_is_err_and}
use Rattle.class_reader.specs.{Names.is_text_of, Class.attribute_at}
use Rattle.class_pool.proofs.Loops.{folded_on, folded_fails, folded_done}
use Rattle.class_reader.proofs.attributes.folded_of.Goals as goal

pub returns-in_err-now : goal.returns-in_err-now
returns-in_err-now g c =
    let p = err_from_is_err_and c.from_residual.result c.from_residual.ensures.1 in
    rw (p.1, p.2) (folded_fails c.in_err-now.field-0.0 (λ found b. attribute_at (is_text_of c.args.name.now) (g.R.Reads.reads c.args.reader.now) c.args.pool.now found b) c.loop-i.found _ c.loop-i.i c.loop-i.rest.now _ c.loop-i-test.true c.in_err-now.ensures c.loop-i.invariant)

pub loop-i-preserved : goal.loop-i-preserved
loop-i-preserved g c = folded_on (λ found b. attribute_at (is_text_of c.args.name.now) (g.R.Reads.reads c.args.reader.now) c.args.pool.now found b) c.loop-i.found _ c.loop-i.i c.loop-i.rest.now (c.in_ok-now.now, c.in_ok-now.next.now) _ c.loop-i-test.true c.in_ok-now.ensures c.loop-i.invariant

pub returns : goal.returns
returns g c = folded_done (λ found b. attribute_at (is_text_of c.args.name.now) (g.R.Reads.reads c.args.reader.now) c.args.pool.now found b) c.loop-i.found _ c.loop-i.i c.loop-i.rest.now _ (omega arith) c.loop-i.invariant
