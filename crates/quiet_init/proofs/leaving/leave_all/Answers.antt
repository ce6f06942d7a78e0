use Rattle.std.proofs.Common.{sym, subst, arith}
use Rattle.jvm_model.specs.World.{World}
use Rattle.quiet_init.specs.Leaving.{AreLeft}
use Rattle.quiet_init.proofs.{Leaves.left_first, Lists.quiet_listed, Lists.as_many}
use Rattle.quiet_init.proofs.leaving.leave_all.Goals as goal

pub loop-class-init : goal.loop-class-init
loop-class-init c = record { left = subst (λ (w : World). AreLeft c.args.p.now 0 w) (sym c.in_ok-memory.ensures) (left_first c.args.p.now); empty = c.new-stack.ensures }

pub bounds-quiet-class : goal.bounds-quiet-class
bounds-quiet-class c = let h = as_many c.args.p.now c.args.quiet.now c.requires.quiet in let k = c.loop-class-test.true in let n = c.len-class-end.ensures in omega arith

pub leave_next-requires-clause-quiet : goal.leave_next-requires-clause-quiet
leave_next-requires-clause-quiet c = quiet_listed c.args.p.now c.args.quiet.now c.requires.quiet c.loop-class.class
