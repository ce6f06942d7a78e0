-- The next test is listed, where it has this label.
use Rattle.std.proofs.Common.{ℕ, List, length, subst, sym, arith}
use Rattle.schedule_plan.proofs.{Places.ended, Grouped.class_begun, Grouped.class_next}
use Rattle.schedule_plan.specs.Grouping.{IsClassOf}
use Rattle.schedule_plan.proofs.classes.class_of.Goals as goal

pub loop-i-init : goal.loop-i-init
loop-i-init c = subst (λ (l : List ℕ). IsClassOf c.args.tests.now c.args.labels.now c.args.label c.args.label l) (sym c.new-list.ensures)
    (class_begun c.args.tests.now c.args.labels.now c.args.label c.requires.within c.requires.low)

pub loop-i-preserved : goal.loop-i-preserved
loop-i-preserved c = class_next c.args.tests.now c.args.labels.now c.args.label c.loop-i.i c.requires.ascending (omega arith) c.loop-i.list c.loop-i.invariant c.push_where.new.list c.in_ok-push_where.ensures

pub returns : goal.returns
returns c = subst (λ (n : ℕ). IsClassOf c.args.tests.now c.args.labels.now c.args.label n c.loop-i.list) (ended c.loop-i.i (length c.args.tests.now) (omega arith) (omega arith)) c.loop-i.invariant
