-- A place with its own label is the least one of its class.
use Rattle.std.proofs.Common.{ℕ, ◌+◌, List, subst, sym}
use Rattle.std.proofs.lemmas.Result.{IfOk-weaker}
use Rattle.schedule_plan.specs.Grouping.{AreClasses}
use Rattle.schedule_plan.proofs.Grouped.{no_class, one_class}
use Rattle.schedule_plan.proofs.classes.push_class.Goals as goal

pub returns-then-labels-root : goal.returns-then-labels-root
returns-then-labels-root c = no_class c.args.tests.now c.args.labels.now c.args.root c.args.lists.now c.requires.before c.if-labels-root.true

pub returns : goal.returns
returns c = IfOk-weaker c.push.result _ _
    (λ x e. subst (λ (C : List (List ℕ)). AreClasses c.args.tests.now c.args.labels.now (c.args.root + 1) C) (sym e)
    (one_class c.args.tests.now c.args.labels.now c.args.root c.args.lists.now c.requires.before c.if-labels-root.false c.in_ok-class.class c.in_ok-class.ensures))
    c.push.ensures.pushed
