-- What tests say of the texts of a pool, each text tested once.
use Rattle.std.specs.Prelude.{ℕ, zero, suc, List, Option, Some, false, slice_index_or}
use Rattle.class_pool.specs.declared.{pool.Entry.Entry, pool.Entry.TheVariants.Utf8, passes.Mark.Mark}
use Rattle.et_base.specs.Names.{is_unqualified, is_method_name, is_class_entry_name, is_field_descriptor, is_method_descriptor}

abbrev pub mark_of_text : List ℕ → Mark
mark_of_text us = record { name = is_unqualified us; method_name = is_method_name us; class_name = is_class_entry_name us; field = is_field_descriptor us; method = is_method_descriptor us }

abbrev pub no_mark : Mark
no_mark = record { name = false; method_name = false; class_name = false; field = false; method = false }

abbrev pub mark_of : Option Entry → Mark
mark_of (Some (Utf8 units)) = mark_of_text units
mark_of _ = no_mark

-- the mark of the slot that an index names
abbrev pub marked : List Mark → ℕ → Mark
marked marks zero = no_mark
marked marks (suc i) = slice_index_or marks i no_mark
