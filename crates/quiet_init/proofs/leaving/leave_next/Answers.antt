use Rattle.std.proofs.Common.{◌∙◌, sym}
use Rattle.std.proofs.lemmas.Result.{on_ok_weaker}
use Rattle.quiet_init.proofs.Leaves.{opened_own, left_more, left_over}
use Rattle.quiet_init.proofs.leaving.leave_next.Goals as goal

pub leave-requires-clause-own : goal.leave-requires-clause-own
leave-requires-clause-own c = opened_own c.args.p.now c.args.class c.args.memory.now c.requires.left

pub returns-then-quiet-clause-left : goal.returns-then-quiet-clause-left
returns-then-quiet-clause-left c = on_ok_weaker c.leave.result (λ h. left_more c.args.p.now c.args.class c.args.memory.now c.requires.left c.leave.new.memory (sym c.requires.quiet ∙ c.if-quiet.true) h) c.leave.ensures.leaves

pub returns-else-quiet-clause-left : goal.returns-else-quiet-clause-left
returns-else-quiet-clause-left c = left_over c.args.p.now c.args.class c.args.memory.now c.requires.left (sym c.requires.quiet ∙ c.if-quiet.false)
