-- The next place is joined to the earlier ones.
use Rattle.std.proofs.Common.{arith}
use Rattle.schedule_plan.proofs.Labelled.{all_joined_next}
use Rattle.schedule_plan.proofs.labels.join_all.Goals as goal

pub loop-i-init : goal.loop-i-init
loop-i-init c = record { labels = c.requires; joined = λ i h. absurd (omega arith) }

pub loop-i-preserved : goal.loop-i-preserved
loop-i-preserved c = record {
  labels = c.join_place.ensures.labels;
  joined = all_joined_next c.args.g.now c.args.tests.now c.loop-i.labels c.join_place.new.labels c.loop-i.i c.loop-i.invariant.labels (omega arith) c.join_place.ensures.kept c.loop-i.invariant.joined c.join_place.ensures.joined;
}

pub returns-clause-joined : goal.returns-clause-joined
returns-clause-joined c = λ i h. c.loop-i.invariant.joined i (omega arith)
