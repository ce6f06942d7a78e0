use Rattle.std.proofs.Common.{◌≡◌, ◌-◌}
use Rattle.class_pool.specs.Loops.{counted}
use Rattle.code_decode.specs.Switches.{place_at}
use Rattle.code_decode.proofs.switches.places_of.Given as goal

abbrev pub invariant-loop-i : goal.invariant-loop-i
invariant-loop-i l = counted (λ _ _ b. place_at l.spot b) l.args (l.count - l.i) l.rest ≡ counted (λ _ _ b. place_at l.spot b) l.initial.args l.count l.bytes
