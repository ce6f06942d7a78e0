-- The places so far are joined to the earlier ones.
use Rattle.schedule_plan.specs.Grouping.{AreLabels, AreJoined}
use Rattle.schedule_plan.proofs.labels.join_all.Given as goal

abbrev pub invariant-loop-i : goal.invariant-loop-i
invariant-loop-i l = record {
  labels : AreLabels l.g l.tests l.labels;
  joined : AreJoined l.g l.tests l.labels l.i;
}
