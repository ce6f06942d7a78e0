-- The place is joined to those so far.
use Rattle.schedule_plan.specs.Grouping.{AreLabels, Keeps, IsJoinedTo}
use Rattle.schedule_plan.proofs.labels.join_place.Given as goal

abbrev pub invariant-loop-k : goal.invariant-loop-k
invariant-loop-k l = record {
  labels : AreLabels l.g l.tests l.labels;
  kept : Keeps l.fn.labels l.labels;
  joined : IsJoinedTo l.g l.tests l.labels l.place l.k;
}
