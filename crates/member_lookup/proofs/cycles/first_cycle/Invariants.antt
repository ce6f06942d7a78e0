use Rattle.member_lookup.proofs.Ancestry.{NoneBelow}
use Rattle.member_lookup.proofs.cycles.first_cycle.Given as goal

abbrev pub invariant-loop-class : goal.invariant-loop-class
invariant-loop-class l = NoneBelow l.p l.class
