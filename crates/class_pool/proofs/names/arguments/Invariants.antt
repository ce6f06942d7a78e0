use Rattle.std.proofs.Common.{◌≡◌, ◌-◌, length}
use Rattle.et_base.specs.Names.{arguments}
use Rattle.class_pool.proofs.names.arguments.Given as goal

abbrev pub invariant-loop : goal.invariant-loop
invariant-loop l = arguments (length l.units - l.counter) l.so_far l.rest ≡ arguments (length l.units) 0 l.units
