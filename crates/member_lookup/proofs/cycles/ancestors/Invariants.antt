use Rattle.std.proofs.Common.{◌-◌, ◌^◌}
use Rattle.member_lookup.proofs.Ancestry.{Searches}
use Rattle.member_lookup.proofs.cycles.ancestors.Given as goal

abbrev pub invariant-loop-place : goal.invariant-loop-place
invariant-loop-place l = Searches l.p l.class l.place l.seen.keys

abbrev pub decreases-loop-place : goal.decreases-loop-place
decreases-loop-place l = 2 ^ 64 - l.place
