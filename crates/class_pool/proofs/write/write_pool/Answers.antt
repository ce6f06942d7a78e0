use Rattle.class_pool.proofs.{WriteLaw.pool_written, OffsetsLaw.is_reread}
use Rattle.class_pool.proofs.write.write_pool.Goals as goal

pub returns-clause-spelled : goal.returns-clause-spelled
returns-clause-spelled c = rw (c.in_ok-put_slots.ensures, c.new-out.ensures.items, c.slots.ensures.gives) (pool_written c.args.pool.now c.slots.ensures.kept)

pub returns-clause-again : goal.returns-clause-again
returns-clause-again c = rw (c.in_ok-put_slots.ensures, c.new-out.ensures.items, c.slots.ensures.gives) (is_reread _ c.args.pool.now (pool_written c.args.pool.now c.slots.ensures.kept))
