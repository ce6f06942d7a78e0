use Rattle.std.proofs.Common.{◌≡◌, ◌++◌}
use Rattle.indexmap.specs.IndexMap.{keys}
use Rattle.member_lookup.proofs.lookup.visited.Given as goal

abbrev pub invariant-loop-class : goal.invariant-loop-class
invariant-loop-class l = l.classes.items ++ l.class-iterator ≡ keys l.seen
