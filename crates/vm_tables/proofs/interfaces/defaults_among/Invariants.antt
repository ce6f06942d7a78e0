use Rattle.std.proofs.Common.{◌≡◌, filter, take}
use Rattle.std.specs.List.{list_any}
use Rattle.jvm_model.specs.Classes.{class_at, method_at, is_default_method}
use Rattle.vm_tables.proofs.interfaces.defaults_among.Given as goal

abbrev pub invariant-loop-interface : goal.invariant-loop-interface
invariant-loop-interface l = l.found ≡ filter (λ i. list_any (λ m. is_default_method (method_at l.p m)) (class_at l.p i).methods) (take l.interface-index l.interfaces)
