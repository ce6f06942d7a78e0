use Rattle.std.proofs.Common.{◌≡◌, ◌++◌, take, map}
use Rattle.type_checker.proofs.context.body_targets.Given as goal

abbrev pub invariant-loop-h : goal.invariant-loop-h
invariant-loop-h l = l.places.items ≡ l.initial.places.items ++ map (λ h. h.at) (take l.h-index l.body.handlers)
