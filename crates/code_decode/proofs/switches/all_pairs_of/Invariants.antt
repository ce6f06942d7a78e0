use Rattle.std.proofs.Common.{◌≡◌, ◌-◌}
use Rattle.class_pool.specs.Loops.{folded}
use Rattle.code_decode.specs.Switches.{pair_at}
use Rattle.code_decode.proofs.switches.all_pairs_of.Given as goal

abbrev pub invariant-loop-i : goal.invariant-loop-i
invariant-loop-i l = folded (λ now b. pair_at l.spot now b) l.args (l.count - l.i) l.rest ≡ folded (λ now b. pair_at l.spot now b) l.initial.args l.count l.bytes
