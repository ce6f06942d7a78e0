-- The classes of the labels are the chains.
use Rattle.std.proofs.Common.{ℕ, List, sym, subst}
use Rattle.order_law.specs.{Conflicts.Member, Plan.Ascending}
use Rattle.schedule_plan.proofs.{Grouped.chains_of_set, Formed.chains_form}
use Rattle.schedule_plan.proofs.chaining.chains.Goals as goal

pub classes_of-requires-clause-many : goal.classes_of-requires-clause-many
classes_of-requires-clause-many c = let a = c.in_ok-labels.ensures.0.many in cc

pub classes_of-requires-clause-ascending : goal.classes_of-requires-clause-ascending
classes_of-requires-clause-ascending c = subst (λ (l : List ℕ). Ascending l) (sym c.as_slice-2.ensures) c.in_ok-tests.ensures.ascending

pub classes_of-requires-clause-low : goal.classes_of-requires-clause-low
classes_of-requires-clause-low c = let low = (rw c.as_slice.ensures at c.in_ok-labels.ensures.0).low in rw (c.as_slice-2.ensures, c.deref.ensures.value) low

pub invariant_of-result : goal.invariant_of-result
invariant_of-result c =
    let chains = chains_of_set c.args.g.now c.args.set.now c.in_ok-tests.tests c.as_slice.result.now c.as_slice-2.result.now c.in_ok-labels.labels.items c.deref.result.now c.in_ok-lists.lists c.goes_up.ensures c.in_ok-tests.ensures c.as_slice.ensures c.as_slice-2.ensures c.deref.ensures.value c.in_ok-labels.ensures.0 c.in_ok-labels.ensures.1 c.in_ok-lists.ensures in
    record { form = chains_form c.args.g.now (λ t. Member t c.args.set.now) c.in_ok-lists.lists chains }

pub returns : goal.returns
returns c = chains_of_set c.args.g.now c.args.set.now c.in_ok-tests.tests c.as_slice.result.now c.as_slice-2.result.now c.in_ok-labels.labels.items c.deref.result.now c.in_ok-lists.lists c.goes_up.ensures c.in_ok-tests.ensures c.as_slice.ensures c.as_slice-2.ensures c.deref.ensures.value c.in_ok-labels.ensures.0 c.in_ok-labels.ensures.1 c.in_ok-lists.ensures
