use Rattle.std.proofs.Common.{◌≡◌, map, take}
use Rattle.et_base.specs.Quotes.{name_of}
use Rattle.suite_load.proofs.report_names.field_names.Given as goal

abbrev pub invariant-loop-field : goal.invariant-loop-field
invariant-loop-field l = l.made ≡ map (λ f. name_of f.name) (take l.field-index l.fields)
