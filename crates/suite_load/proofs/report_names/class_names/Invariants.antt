use Rattle.std.proofs.Common.{◌≡◌, map, take}
use Rattle.et_base.specs.Quotes.{name_of}
use Rattle.suite_load.proofs.report_names.class_names.Given as goal

abbrev pub invariant-loop-class : goal.invariant-loop-class
invariant-loop-class l = l.made ≡ map (λ c. name_of c.name) (take l.class-index l.classes)
