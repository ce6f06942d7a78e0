use Rattle.std.proofs.Common.{◌≡◌, ℕ, false, get_or, length, take}
use Rattle.jvm_model.specs.Classes.{member}
use Rattle.vm_tables.proofs.hierarchy.flags_of.Given as goal

abbrev pub invariant-loop-number : goal.invariant-loop-number
invariant-loop-number l = record {
  long : length l.flags.items ≡ l.count;
  noted : (n : ℕ) → get_or l.flags.items n false ≡ member n (take l.number-index l.numbers);
}
