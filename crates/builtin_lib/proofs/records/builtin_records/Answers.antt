use Rattle.jvm_model.specs.Library.{builtin_classes, builtin_fields, builtin_methods}
use Rattle.builtin_lib.proofs.Counts.{few_classes, few_fields, few_methods}
use Rattle.builtin_lib.proofs.records.builtin_records.Goals as goal

pub class_records-requires-clause-classes_in_range :
    goal.class_records-requires-clause-classes_in_range
class_records-requires-clause-classes_in_range c = few_classes _ c.class_rows-rows.ensures

pub class_records-requires-clause-fields_in_range :
    goal.class_records-requires-clause-fields_in_range
class_records-requires-clause-fields_in_range c = few_fields _ c.class_rows-rows.ensures

pub class_records-requires-clause-methods_in_range :
    goal.class_records-requires-clause-methods_in_range
class_records-requires-clause-methods_in_range c = few_methods _ c.class_rows-rows.ensures

pub field_records-requires : goal.field_records-requires
field_records-requires c = record { in_range = few_classes _ c.class_rows-rows.ensures }

pub method_records-requires : goal.method_records-requires
method_records-requires c = record { in_range = few_classes _ c.class_rows-rows.ensures }

pub returns-clause-classes : goal.returns-clause-classes
unfolding builtin_classes
returns-clause-classes c = rw c.class_rows-rows.ensures at (c.in_ok-class_records.ensures)

pub returns-clause-fields : goal.returns-clause-fields
unfolding builtin_fields
returns-clause-fields c = rw c.class_rows-rows.ensures at (c.in_ok-field_records.ensures)

pub returns-clause-methods : goal.returns-clause-methods
unfolding builtin_methods
returns-clause-methods c = rw c.class_rows-rows.ensures at (c.in_ok-method_records.ensures)
