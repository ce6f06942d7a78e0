use Rattle.std.proofs.Common.{◌≡◌, ◌++◌, filter, map, take}
use Rattle.vm_tables.specs.Starts.{part_of, interface_part, is_started}
use Rattle.vm_tables.proofs.init_plan.push_interfaces.Given as goal

abbrev pub invariant-loop-interface : goal.invariant-loop-interface
invariant-loop-interface l = map part_of l.parts ≡ map part_of l.fn.parts ++ filter (λ x. is_started l.trivial x) (map interface_part (take l.interface-index l.interfaces))
