use Rattle.std.proofs.Common.{◌≡◌, ◌++◌}
use Rattle.std.specs.List.{flat_map, range_with_len}
use Rattle.suite_gen.specs.Bytes.{group_bytes}
use Rattle.suite_gen.proofs.class.push_groups.Given as goal

-- what was written so far
abbrev pub invariant-loop-group : goal.invariant-loop-group
invariant-loop-group l = l.out ≡ l.fn.out ++ flat_map group_bytes (range_with_len 0 l.group)
