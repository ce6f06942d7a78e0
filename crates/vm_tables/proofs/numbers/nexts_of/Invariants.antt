use Rattle.std.proofs.Common.{◌≡◌, ℕ, ◌<◌, Some, length, get_or}
use Rattle.vm_tables.specs.Numbers.{next_of}
use Rattle.vm_tables.proofs.numbers.nexts_of.Given as goal

abbrev pub invariant-loop-pc : goal.invariant-loop-pc
invariant-loop-pc l = record {
  many : length l.nexts ≡ l.pc;
  after : (k : ℕ) → k < l.pc → get_or l.nexts k k ≡ next_of (Some l.body) k;
}
