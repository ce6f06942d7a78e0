use Rattle.std.proofs.Common.{◌≡◌, ◌++◌, drop}
use Rattle.quiet_init.specs.QuietText.{class_lines}
use Rattle.quiet_init.proofs.text.push_classes.Given as goal

-- what was written, and the classes that are left
abbrev pub invariant-loop-class : goal.invariant-loop-class
invariant-loop-class l = l.out ++ class_lines l.p (drop l.class-index l.classes) ≡ l.fn.out ++ class_lines l.p l.classes
