use Rattle.std.proofs.Common.{◌≡◌, ◌≤◌, ◌⊎◌, ◌-◌}
use Rattle.std.specs.Prelude.{filter}
use Rattle.std.specs.List.{flat_map, range_with_len}
use Rattle.jvm_model.specs.{Builtin.builtin_count, Classes.member}
use Rattle.class_link.specs.Assembly.{mentioned_by}
use Rattle.class_link.proofs.mentions.mentions.Given as goal

abbrev pub invariant-loop-class : goal.invariant-loop-class
invariant-loop-class l = (l.mentions ≡ filter (λ c. member c (flat_map (mentioned_by l.names l.slots) l.slots)) (range_with_len builtin_count (l.class - builtin_count))) × ((l.class ≡ builtin_count) ⊎ (l.class ≤ l.class-end))
