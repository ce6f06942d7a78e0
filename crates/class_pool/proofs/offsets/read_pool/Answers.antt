use Rattle.std.proofs.Common.{arith}
use Rattle.class_pool.proofs.OffsetsLaw.{found, only}
use Rattle.class_pool.proofs.offsets.read_pool.Goals as goal

pub returns-clause-found : goal.returns-clause-found
returns-clause-found c = found c.args.bytes.now c.args.at c.read_exactly.result (λ i. omega (arith, c.type_inv.bytes i)) c.read_exactly.ensures

pub returns-clause-only : goal.returns-clause-only
returns-clause-only c = only c.args.bytes.now c.args.at c.read_exactly.result c.read_exactly.ensures
