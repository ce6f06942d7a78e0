use Rattle.std.proofs.Common.{◌≡◌, ◌-◌}
use Rattle.std.specs.List.{range_with_len}
use Rattle.class_link.specs.{Bodies.target_in, Faults.first_some, Faults.indices, Marks.mark_at, Marks.mark_fault}
use Rattle.class_link.proofs.reference_faults.check_entries.Given as goal

-- the first fault of the entries from here on is that of all
abbrev pub invariant-loop-index : goal.invariant-loop-index
invariant-loop-index l =
    first_some (λ i. mark_fault l.setting l.class i (target_in l.targets i) (mark_at l.marks i)) (range_with_len l.index (l.end - l.index)) ≡ first_some (λ i. mark_fault l.setting l.class i (target_in l.targets i) (mark_at l.marks i)) (indices l.class)
