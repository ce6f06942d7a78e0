use Rattle.std.proofs.Common.{arith, length}
use Rattle.std.proofs.lemmas.Result.{err_from_is_err_and}
use Rattle.code_decode.specs.Instructions.{op_at, spot_at, ops_at}
use Rattle.class_pool.proofs.Loops.{to_end_on, to_end_fails, to_end_none, to_end_out}
use Rattle.code_decode.proofs.instructions.ops_of.Goals as goal
use Rattle.code_decode.proofs.instructions.ops_of.Goals.{else-loop-test, then-loop-test+then-is_empty}

pub returns-in_err-op : goal.returns-in_err-op
unfolding ops_at
returns-in_err-op c =
    let p = err_from_is_err_and c.from_residual-in_err-op.result c.from_residual-in_err-op.ensures.1 in
    rw (p.1, p.2) (to_end_fails c.in_err-op.field-0.0 (λ _ rest. op_at c.args.pool.now (spot_at c.args.method (length c.args.bytes.now) rest) rest) c.loop.ops _ c.loop.counter c.loop.rest.now _ c.loop-test.true (grind arith) (rw c.spot_at-spot.ensures at c.in_err-op.ensures) c.loop.invariant)

pub loop-preserved : goal.loop-preserved
loop-preserved c = rw c.in_ok-push.ensures.pushed (to_end_on (λ _ rest. op_at c.args.pool.now (spot_at c.args.method (length c.args.bytes.now) rest) rest) c.loop.ops _ c.loop.counter c.loop.rest.now (c.in_ok-op.op, c.in_ok-op.next.now) _ c.loop-test.true (grind arith) (rw c.spot_at-spot.ensures at c.in_ok-op.ensures) c.loop.invariant)

pub returns : goal.returns
unfolding ops_at
returns c = rw c.without_room.ensures (elim c.loop-test.branch [
  | else-loop-test w ↦ to_end_out (λ _ rest. op_at c.args.pool.now (spot_at c.args.method (length c.args.bytes.now) rest) rest) c.loop.ops _ c.loop.rest.now _ (omega arith) c.loop.invariant
  | then-loop-test+then-is_empty w ↦ to_end_none (λ _ rest. op_at c.args.pool.now (spot_at c.args.method (length c.args.bytes.now) rest) rest) c.loop.ops _ c.loop.rest.now _ (grind arith) c.loop.invariant
])
