use Rattle.std.proofs.Common.{◌+◌, ◌*◌, flat_map, length, take}
use Rattle.vm_tables.specs.Interfaces.{lineage, Gathers}
use Rattle.vm_tables.proofs.interfaces.+gathering.Given as goal

abbrev pub decreases-gather : goal.decreases-gather
decreases-gather l = 2 * length (lineage l.p.now l.interface)

abbrev pub decreases-gather_all : goal.decreases-gather_all
decreases-gather_all l = 2 * length (flat_map (λ i. lineage l.p.now i) l.interfaces.now) + 1

abbrev pub invariant-gather_all-loop-interface : goal.invariant-gather_all-loop-interface
invariant-gather_all-loop-interface l = Gathers l.p (flat_map (λ i. lineage l.p i) (take l.interface-index l.interfaces)) l.fn.noted.keys l.noted.keys
