use Rattle.std.proofs.Common.{◌+◌, ◌*◌, flat_map, take}
use Rattle.member_lookup.specs.Walks.{Visits, walk}
use Rattle.member_lookup.proofs.walk.+walking.Given as goal

abbrev pub decreases-visit : goal.decreases-visit
decreases-visit l = 3 * l.steps

abbrev pub decreases-visit_all : goal.decreases-visit_all
decreases-visit_all l = 3 * l.steps + 1

abbrev pub decreases-visit_nexts : goal.decreases-visit_nexts
decreases-visit_nexts l = 3 * l.steps + 2

abbrev pub decreases-visit_superclass : goal.decreases-visit_superclass
decreases-visit_superclass l = 3 * l.steps + 1

abbrev pub invariant-visit_all-loop-class : goal.invariant-visit_all-loop-class
invariant-visit_all-loop-class l = Visits l.p l.supers (flat_map (λ c. walk l.p l.supers l.steps c) (take l.class-index l.classes)) l.fn.seen l.seen
