use Rattle.std.proofs.Common.{◌≡◌, ◌-◌, []}
use Rattle.class_pool.specs.Loops.{counted}
use Rattle.class_reader.proofs.reading.counted.Given as goal

abbrev pub invariant-loop-i : goal.invariant-loop-i
invariant-loop-i g l = counted (λ _ _ b. g.R.Reads.reads l.reader b) l.parts (l.count - l.i) l.rest ≡ counted (λ _ _ b. g.R.Reads.reads l.reader b) [] l.count l.bytes
