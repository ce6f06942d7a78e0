use Rattle.std.proofs.Common.{flat_map, take, false}
use Rattle.jvm_model.specs.Classes.{method_at}
use Rattle.member_lookup.specs.Walks.{Visits, above_class}
use Rattle.member_lookup.proofs.lookup.above_methods.Given as goal

abbrev pub invariant-loop-method : goal.invariant-loop-method
invariant-loop-method l = Visits l.p false (flat_map (λ m. above_class l.p (method_at l.p m).class) (take l.method-index l.methods)) l.initial.seen l.seen
