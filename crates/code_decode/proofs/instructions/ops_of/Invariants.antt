use Rattle.std.proofs.Common.{◌≡◌, ◌-◌, [], length}
use Rattle.class_pool.specs.Loops.{to_end}
use Rattle.code_decode.specs.Instructions.{op_at, spot_at}
use Rattle.code_decode.proofs.instructions.ops_of.Given as goal

abbrev pub invariant-loop : goal.invariant-loop
invariant-loop l = to_end (λ _ rest. op_at l.pool (spot_at l.method (length l.bytes) rest) rest) l.ops (length l.bytes - l.counter) l.rest ≡ to_end (λ _ rest. op_at l.pool (spot_at l.method (length l.bytes) rest) rest) [] (length l.bytes) l.bytes
