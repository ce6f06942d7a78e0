use Rattle.std.proofs.Common.{◌≡◌, take}
use Rattle.std.specs.List.{list_any}
use Rattle.order_law.specs.Reach as reach
use Rattle.order_law.proofs.settled.puts_out.Given as goal

abbrev pub invariant-loop-method : goal.invariant-loop-method
invariant-loop-method l = l.found ≡ list_any (λ m. reach.body_puts_out m.body) (take l.method-index l.p.methods)
