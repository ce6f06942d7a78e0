use Rattle.std.proofs.Common.{◌≡◌}
use Rattle.jvm_model.specs.{Classes.upwards, Lookup.find_declared}
use Rattle.jvm_model.proofs.Upwards.{chain}
use Rattle.member_lookup.proofs.lookup.declared_upwards.Given as goal

abbrev pub invariant-loop-next : goal.invariant-loop-next
invariant-loop-next l = find_declared l.p l.name l.descriptor (chain l.p l.steps l.next) ≡ find_declared l.p l.name l.descriptor (upwards l.p l.class)

abbrev pub decreases-loop-next : goal.decreases-loop-next
decreases-loop-next l = l.steps
