-- The place is joined to one more.
use Rattle.std.proofs.Common.{arith}
use Rattle.schedule_plan.proofs.Labelled.{kept_same, kept_on, joined_none, joined_next}
use Rattle.schedule_plan.proofs.labels.join_place.Goals as goal

pub loop-k-init : goal.loop-k-init
loop-k-init c = record { labels = c.requires.labels; kept = kept_same c.args.labels.now; joined = joined_none c.args.g.now c.args.tests.now c.args.labels.now c.args.place }

pub loop-k-preserved : goal.loop-k-preserved
loop-k-preserved c = record {
  labels = c.join.ensures.labels;
  kept = kept_on c.args.g.now c.args.tests.now c.args.labels.now c.loop-k.labels c.join.new.labels c.requires.labels c.loop-k.invariant.labels c.loop-k.invariant.kept c.join.ensures.kept;
  joined = joined_next c.args.g.now c.args.tests.now c.loop-k.labels c.join.new.labels c.args.place c.loop-k.k c.loop-k.invariant.labels (omega arith) c.requires.within c.join.ensures.kept c.loop-k.invariant.joined c.join.ensures.joined;
}

pub returns-clause-joined : goal.returns-clause-joined
returns-clause-joined c = λ k h. c.loop-k.invariant.joined k (omega arith)
