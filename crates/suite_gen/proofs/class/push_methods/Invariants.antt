use Rattle.std.proofs.Common.{◌≡◌, ◌++◌}
use Rattle.std.specs.List.{flat_map, range_with_len}
use Rattle.suite_gen.specs.Bytes.{short, method_bytes}
use Rattle.suite_gen.proofs.class.push_methods.Given as goal

-- what was written so far
abbrev pub invariant-loop-index : goal.invariant-loop-index
invariant-loop-index l = l.out ≡ (l.fn.out ++ short l.k) ++ flat_map (method_bytes l.k) (range_with_len 1 l.index)
