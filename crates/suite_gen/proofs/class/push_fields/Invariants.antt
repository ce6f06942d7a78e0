use Rattle.std.proofs.Common.{◌≡◌, ◌++◌}
use Rattle.std.specs.List.{flat_map, range_with_len}
use Rattle.suite_gen.specs.Bytes.{short, field_bytes}
use Rattle.suite_gen.proofs.class.push_fields.Given as goal

-- what was written so far
abbrev pub invariant-loop-group : goal.invariant-loop-group
invariant-loop-group l = l.out ≡ (l.fn.out ++ short l.groups) ++ flat_map field_bytes (range_with_len 0 l.group)
