-- The tests so far with this label.
use Rattle.schedule_plan.specs.Grouping.{IsClassOf}
use Rattle.schedule_plan.proofs.classes.class_of.Given as goal

abbrev pub invariant-loop-i : goal.invariant-loop-i
invariant-loop-i l = IsClassOf l.tests l.labels l.label l.i l.list
