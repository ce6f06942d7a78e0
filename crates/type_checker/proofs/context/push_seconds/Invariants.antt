use Rattle.std.proofs.Common.{◌≡◌, ◌++◌, take, map}
use Rattle.type_checker.proofs.context.push_seconds.Given as goal

abbrev pub invariant-loop-pair : goal.invariant-loop-pair
invariant-loop-pair l = l.places.items ≡ l.initial.places.items ++ map (λ x. x.1) (take l.pair-index l.pairs)
