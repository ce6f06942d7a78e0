use Rattle.std.proofs.Common.{◌≡◌, ◌++◌}
use Rattle.std.specs.List.{flat_map, range_with_len}
use Rattle.suite_gen.specs.Generated.{test_line}
use Rattle.suite_gen.proofs.text.push_test_lines.Given as goal

-- what was written so far
abbrev pub invariant-loop-index : goal.invariant-loop-index
invariant-loop-index l = l.out ≡ l.fn.out ++ flat_map test_line (range_with_len 1 l.index)
