use Rattle.std.proofs.Common.{◌≡◌, ◌-◌}
use Rattle.class_pool.specs.Loops.{folded}
use Rattle.class_reader.specs.Class.{skipped_at}
use Rattle.class_reader.proofs.attributes.after_count.Given as goal

abbrev pub invariant-loop-i : goal.invariant-loop-i
invariant-loop-i l = folded (λ _ b. skipped_at l.pool b) tt (l.count - l.i) l.rest ≡ folded (λ _ b. skipped_at l.pool b) tt l.count l.bytes
