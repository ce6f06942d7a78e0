use Rattle.std.proofs.Common.{◌≡◌, drop}
use Rattle.jvm_model.specs.Driver.{plain_method_in}
use Rattle.class_link.proofs.tests_of.has_plain_method.Given as goal

-- the first of what is left is the first of all
abbrev pub invariant-loop-method : goal.invariant-loop-method
invariant-loop-method l = plain_method_in l.p l.name (drop l.method-index l.methods) ≡ plain_method_in l.p l.name l.methods
