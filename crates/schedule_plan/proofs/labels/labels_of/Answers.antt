-- At first each place has its own label.
use Rattle.std.proofs.Common.{ℕ, List, sym, subst}
use Rattle.schedule_plan.specs.Grouping.{AreLabels}
use Rattle.schedule_plan.proofs.Labelled.{own_labels}
use Rattle.schedule_plan.proofs.labels.labels_of.Goals as goal

pub join_all-requires : goal.join_all-requires
join_all-requires c = subst (λ (l : List ℕ). AreLabels c.args.g.now c.args.tests.now l) (sym c.deref_mut.ensures.value) (own_labels c.args.g.now c.args.tests.now c.in_ok-labels.labels.items c.in_ok-labels.ensures.many c.in_ok-labels.ensures.own)
