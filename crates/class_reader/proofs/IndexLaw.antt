-- Indices: what is read is spelled so, and what is spelled so is read.
use Rattle.std.proofs.Common.{List, length, Option, Ok, Bool}
use Rattle.std.specs.Int.{w16}
use Rattle.class_pool.specs.declared.{fault.Fault.TheVariants.BadIndex, fault.Fault.TheVariants.BadDescriptor, pool.Entry.Entry}
use Rattle.et_base.specs.Answers.{◌>>=◌, tested}
use Rattle.class_pool.specs.{Reading.number_at, Pool.entry_of, Pool.is_text, Grammar.Nothing}
use Rattle.class_pool.proofs.Laws.{Reads, reads_nothing, reads_then, tested_then, reads_16}
use Rattle.class_reader.specs.Indices.{index_at, form_at, Index, Form}

pub reads_index : (fits : Option Entry → Bool) (slots : List (Option Entry)) → Reads (Index fits slots) (index_at fits slots)
unfolding index_at
reads_index fits slots = reads_then _ _ (λ b. number_at w16 b) (λ all i rest. tested (fits (entry_of slots i)) (BadIndex (length all)) >>= λ _. Ok (i, rest)) reads_16
    (λ all i. tested_then (fits (entry_of slots i)) (λ _. BadIndex (length all)) (Nothing i) (λ rest. Ok (i, rest)) (reads_nothing i))

pub reads_form : (form : Option Entry → Bool) (slots : List (Option Entry)) → Reads (Form form slots) (form_at form slots)
unfolding form_at
reads_form form slots = reads_then _ _ (index_at is_text slots) (λ all i rest. tested (form (entry_of slots i)) (BadDescriptor (length all)) >>= λ _. Ok (i, rest)) (reads_index is_text slots)
    (λ all i. tested_then (form (entry_of slots i)) (λ _. BadDescriptor (length all)) (Nothing i) (λ rest. Ok (i, rest)) (reads_nothing i))
