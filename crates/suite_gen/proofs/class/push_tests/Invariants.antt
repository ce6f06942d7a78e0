use Rattle.std.proofs.Common.{◌≡◌, ◌++◌}
use Rattle.std.specs.List.{flat_map, range_with_len}
use Rattle.suite_gen.specs.Bytes.{name_bytes}
use Rattle.suite_gen.proofs.class.push_tests.Given as goal

-- what was written so far
abbrev pub invariant-loop-index : goal.invariant-loop-index
invariant-loop-index l = l.out ≡ l.fn.out ++ flat_map (name_bytes 116) (range_with_len 1 l.index)
