use Rattle.quiet_init.proofs.Ends.{still_by, still_not}
use Rattle.quiet_init.proofs.starts.is_still.Goals as goal

pub returns-then-is_end : goal.returns-then-is_end
returns-then-is_end c = still_by c.args.p.now c.args.class c.args.code.now c.in-Some.before.now c.in-Some.last.now c.is_end.result c.are_still.result c.in-Some.ensures.cases.0 c.is_end.ensures c.are_still.ensures c.if-is_end.true

pub returns-else-is_end : goal.returns-else-is_end
returns-else-is_end c = still_not c.args.p.now c.args.class c.args.code.now c.in-Some.before.now c.in-Some.last.now c.is_end.result c.in-Some.ensures.cases.0 c.is_end.ensures c.if-is_end.false
