-- The classes whose least places were met.
use Rattle.schedule_plan.specs.Grouping.{AreClasses}
use Rattle.schedule_plan.proofs.classes.classes_of.Given as goal

abbrev pub invariant-loop-root : goal.invariant-loop-root
invariant-loop-root l = AreClasses l.tests l.labels l.root l.lists
