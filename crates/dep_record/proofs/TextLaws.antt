-- What a reader that gives what the definition gives has read.
use Rattle.std.proofs.Common.{◌≡◌, ℕ, true, List, Result, Ok, Err, sym, ap, ◌∙◌}
use Rattle.std.specs.Prelude.{IfOk}
use Rattle.order_law.specs.declared.records.Record.{Record}
use Rattle.dep_record.specs.RecordText.{said, record_text, has_hashes}
use Rattle.dep_record.specs.RecordReading.{Gives, said_in}
use Rattle.dep_record.specs.declared.refusal.{RecordRefusal.RecordRefusal, RecordRefusal.TheVariants.RecordFault, RecordRefusal.TheVariants.NoMemory}
use Rattle.dep_record.proofs.{FoundLaws.found_text, GivenLaws.given_text}

pub found_gives : (result : Result Record RecordRefusal) (text : List ℕ) → Gives said result (said_in text) → IfOk result (λ r. record_text r ≡ text)
found_gives (Ok r) text h = found_text text (said r) h
found_gives (Err e) text h = tt

given : (text : List ℕ) (r : Record) → has_hashes (said r) ≡ true → record_text r ≡ text → said_in text ≡ Ok (said r)
given text r hs e = ap said_in (sym e) ∙ given_text (said r) r.form r.more_form hs

pub only_gives : (result : Result Record RecordRefusal) (text : List ℕ) → Gives said result (said_in text) → (r : Record) → has_hashes (said r) ≡ true → record_text r ≡ text → Gives said result (Ok (said r))
only_gives (Ok x) text h r hs e = sym (given text r hs e) ∙ h
only_gives (Err NoMemory) text h r hs e = tt
only_gives (Err (RecordFault line)) text h r hs e = sym (given text r hs e) ∙ h
