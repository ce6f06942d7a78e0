-- The greater label is written over.
use Rattle.std.proofs.Common.{arith}
use Rattle.schedule_plan.proofs.{Joinings.joined_back, Labelled.new_labels, Labelled.joined_forth}
use Rattle.schedule_plan.proofs.labels.join.Goals as goal

pub returns-then-a-b-2-clause-labels : goal.returns-then-a-b-2-clause-labels
returns-then-a-b-2-clause-labels c = new_labels c.args.g.now c.args.tests.now c.args.labels.now c.relabel.new.labels c.requires.labels c.args.place c.args.earlier c.requires.within (omega arith) (omega arith)
    (joined_back (joined_forth c.args.g.now c.args.tests.now c.args.earlier c.args.place (omega arith) c.requires.within (c.before-else-a-b.ensures.0 c.if-not-before.false))) c.relabel.ensures.many c.relabel.ensures.each

pub returns-else-a-b-2-clause-labels : goal.returns-else-a-b-2-clause-labels
returns-else-a-b-2-clause-labels c = new_labels c.args.g.now c.args.tests.now c.args.labels.now c.relabel-else-a-b-2.new.labels c.requires.labels c.args.earlier c.args.place (omega arith) c.requires.within c.if-a-b-2.false
    (joined_forth c.args.g.now c.args.tests.now c.args.earlier c.args.place (omega arith) c.requires.within (c.before-else-a-b.ensures.0 c.if-not-before.false)) c.relabel-else-a-b-2.ensures.many c.relabel-else-a-b-2.ensures.each
