use Rattle.std.proofs.Common.{◌≡◌, ◌≤◌, ◌+◌, ◌==◌, not, take, length}
use Rattle.std.specs.List.{suffix_len}
use Rattle.suite_load.proofs.test_line.after_last_dot.Given as goal

abbrev pub invariant-loop-n : goal.invariant-loop-n
invariant-loop-n l = (l.n + suffix_len (λ b. not (b == 46)) l.name ≡ length l.name + suffix_len (λ b. not (b == 46)) (take l.n l.name)) × (l.n ≤ length l.name)

abbrev pub decreases-loop-n : goal.decreases-loop-n
decreases-loop-n l = l.n
