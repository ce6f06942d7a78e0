use Rattle.std.proofs.Common.{get_or, cond, false, None}
use Rattle.jvm_model.specs.{declared.program.ClassRec.ClassRec, Classes.no_class}
use Rattle.quiet_init.proofs.Lists.{AreSet}
use Rattle.quiet_init.proofs.program.without_starts.Given as goal

abbrev pub invariant-loop-class : goal.invariant-loop-class
invariant-loop-class l = AreSet ClassRec no_class (λ c. cond (get_or l.quiet c false) (record (get_or l.fn.classes c no_class) { initialiser = None }) (get_or l.fn.classes c no_class)) l.fn.classes l.class l.classes.items
