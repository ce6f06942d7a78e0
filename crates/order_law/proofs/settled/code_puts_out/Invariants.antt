use Rattle.std.proofs.Common.{◌≡◌, take}
use Rattle.std.specs.List.{list_any}
use Rattle.order_law.specs.Reach as reach
use Rattle.order_law.proofs.settled.code_puts_out.Given as goal

abbrev pub invariant-loop-placed : goal.invariant-loop-placed
invariant-loop-placed l = l.found ≡ list_any (λ x. reach.puts_out x.form) (take l.placed-index l.code)
