use Rattle.std.proofs.Common.{◌≡◌, ℕ, length, get_or, take}
use Rattle.vm_tables.specs.Numbers.{number_in}
use Rattle.vm_tables.proofs.numbers.numbers_of.Given as goal

abbrev pub invariant-loop-i : goal.invariant-loop-i
invariant-loop-i l = record {
  long : length l.numbers.items ≡ l.body.length;
  numbered : (pc : ℕ) → get_or l.numbers.items pc 0 ≡ number_in (take l.i l.body.code) pc;
}
