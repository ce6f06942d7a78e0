use Rattle.std.proofs.Common.{subst, Ok, Err}
use Rattle.et_base.specs.Answers.{Fails}
use Rattle.class_pool.specs.{Reading.named, Pool.pool_at}
use Rattle.class_pool.proofs.{PoolFaults.refuses_pool, OffsetsLaw.gives, OffsetsLaw.from_slice}
use Rattle.class_pool.proofs.offsets.read_exactly.Goals as goal

pub placed_fault-requires-clause-sort : goal.placed_fault-requires-clause-sort
placed_fault-requires-clause-sort c =
    refuses_pool c.bytes_from-start.result.now c.in-Err-Fault.fault (subst (λ e. Fails (named e) (pool_at c.bytes_from-start.result.now)) c.in-Err-Fault.field-0-is c.in-Err-Fault.ensures)

pub returns-in-Ok : goal.returns-in-Ok
returns-in-Ok c =
    rw c.place.ensures (from_slice c.args.bytes.now c.bytes_from-start.result.now c.args.at (Ok (c.in-Ok.pool, c.in-Ok.rest.now)) c.bytes_from-start.ensures c.in-Ok.ensures)

pub returns-in-Err-Fault : goal.returns-in-Err-Fault
returns-in-Err-Fault c =
    rw c.placed_fault.ensures (gives _ _ (from_slice c.args.bytes.now c.bytes_from-start.result.now c.args.at (Err c.in-Err-Fault.fault) c.bytes_from-start.ensures (subst (λ e. Fails (named e) (pool_at c.bytes_from-start.result.now)) c.in-Err-Fault.field-0-is c.in-Err-Fault.ensures)))
