use Rattle.std.proofs.Common.{arith}
use Rattle.member_lookup.proofs.Ancestry.{none_builtin, none_all}
use Rattle.member_lookup.proofs.cycles.first_cycle.Goals as goal

pub loop-class-init : goal.loop-class-init
loop-class-init c = none_builtin c.args.p.now c.requires.builtins

pub returns : goal.returns
returns c = none_all _ c.loop-class.class (omega arith) c.loop-class.invariant
