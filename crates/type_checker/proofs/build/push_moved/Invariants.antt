use Rattle.std.proofs.Common.{◌≡◌, ◌++◌, take, map}
use Rattle.type_frames.specs.StackEffect.{place_of}
use Rattle.type_checker.proofs.build.push_moved.Given as goal

abbrev pub invariant-loop-n : goal.invariant-loop-n
invariant-loop-n l = l.types ≡ l.initial.types ++ map (λ n. place_of l.frame n) (take l.n-index l.order)
