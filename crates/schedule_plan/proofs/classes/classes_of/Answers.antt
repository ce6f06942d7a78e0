-- The place may be the least one of a class.
use Rattle.std.proofs.Common.{ℕ, List, subst, sym}
use Rattle.schedule_plan.specs.Grouping.{AreClasses}
use Rattle.schedule_plan.proofs.Grouped.{classes_begun}
use Rattle.schedule_plan.proofs.classes.classes_of.Goals as goal

pub loop-root-init : goal.loop-root-init
loop-root-init c = subst (λ (C : List (List ℕ)). AreClasses c.args.tests.now c.args.labels.now 0 C) (sym c.new-lists.ensures) (classes_begun c.args.tests.now c.args.labels.now)
