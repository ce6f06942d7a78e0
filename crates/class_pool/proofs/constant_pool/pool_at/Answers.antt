use Rattle.std.proofs.Common.{arith}
use Rattle.class_pool.proofs.{PoolLaw.reads_pool, WriteLaw.pool_kept}
use Rattle.class_pool.proofs.constant_pool.pool_at.Goals as goal

pub new-requires : goal.new-requires
new-requires c = rw c.into_vec.ensures (pool_kept _ _ ((reads_pool.takes c.args.bytes.now (c.in_ok-slots.slots, c.in_ok-slots.rest.now) (λ i. omega (arith, c.type_inv.bytes i)) c.in_ok-slots.ensures).spelled))
