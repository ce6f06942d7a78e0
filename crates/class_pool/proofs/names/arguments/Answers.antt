use Rattle.std.proofs.Common.{arith}
use Rattle.class_pool.proofs.NamesLaw.{arguments_closed, arguments_fail, arguments_on, arguments_out}
use Rattle.class_pool.proofs.names.arguments.Goals as goal

pub returns-in-Some : goal.returns-in-Some
returns-in-Some c = arguments_closed _ c.loop.counter c.loop.so_far c.loop.rest.now c.in-Some.after.now _ c.loop-test.true c.in-Some.ensures c.loop.invariant

pub returns-in_err-count : goal.returns-in_err-count
returns-in_err-count c = rw c.from_residual.ensures (arguments_fail _ c.loop.counter c.loop.so_far c.loop.rest.now _ c.loop-test.true c.in_default.ensures c.in_err-count.ensures c.loop.invariant)

pub loop-preserved : goal.loop-preserved
loop-preserved c = arguments_on _ c.loop.counter c.loop.so_far c.loop.rest.now (c.in_ok-count.count, c.in_ok-count.next.now) _ c.loop-test.true c.in_default.ensures c.in_ok-count.ensures c.loop.invariant

pub returns : goal.returns
returns c = arguments_out _ c.loop.counter c.loop.so_far c.loop.rest.now _ (omega arith) c.loop.invariant
