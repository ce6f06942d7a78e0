use Rattle.std.proofs.Common.{◌≡◌, drop}
use Rattle.jvm_model.specs.Driver as driver
use Rattle.vm_interp.proofs.lookup.plain_method_in.Given as goal

-- the methods from the index on give what all give
abbrev pub invariant-loop-method : goal.invariant-loop-method
invariant-loop-method l = driver.plain_method_in l.p l.name (drop l.method-index l.methods) ≡ driver.plain_method_in l.p l.name l.methods
