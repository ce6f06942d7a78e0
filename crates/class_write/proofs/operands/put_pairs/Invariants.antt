use Rattle.std.proofs.Common.{◌≡◌, ◌*◌, ◌++◌, drop}
use Rattle.code_decode.specs.Spelling.{pair_bytes}
use Rattle.class_write.proofs.operands.put_pairs.Given as goal

-- what is written and what is left is all
abbrev pub invariant-loop-i : goal.invariant-loop-i
invariant-loop-i l = l.out.items ++ pair_bytes l.pc (drop (2 * l.i) l.pairs) ≡ l.fn.out.items ++ pair_bytes l.pc l.pairs
