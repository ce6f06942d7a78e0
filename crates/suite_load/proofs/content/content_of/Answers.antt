use Rattle.std.proofs.Common.{sym, ◌∙◌}
use Rattle.suite_load.proofs.ContentLaws.{front_grows, front_fails, front_ends, front_starts}
use Rattle.suite_load.proofs.content.content_of.Goals as goal

pub returns-in_default : goal.returns-in_default
returns-in_default c =
    sym (front_fails c.loop-rest.content c.loop-rest.rest.now (sym c.is_empty.ensures ∙ c.loop-rest-test.true) (sym c.in_default.ensures.unit)) ∙ c.loop-rest.invariant

pub loop-rest-init : goal.loop-rest-init
loop-rest-init c = rw c.new-content.ensures (front_starts c.args.text.now)

pub loop-rest-preserved : goal.loop-rest-preserved
loop-rest-preserved c =
    rw c.in_ok-push.ensures.pushed
    (sym (front_grows c.loop-rest.content c.loop-rest.rest.now c.in-Some.unit c.in-Some.more.now (sym c.is_empty.ensures ∙ c.loop-rest-test.true) (sym c.in-Some.ensures.unit))
    ∙ c.loop-rest.invariant)

pub returns : goal.returns
returns c = sym (front_ends c.loop-rest.content c.loop-rest.rest.now (sym c.is_empty.ensures ∙ c.loop-rest-test.false)) ∙ c.loop-rest.invariant
