use Rattle.std.proofs.Common.{length}
use Rattle.type_checker.proofs.rules.+can_set.Given as goal

abbrev pub decreases-can_set : goal.decreases-can_set
decreases-can_set l = length l.sets.now
