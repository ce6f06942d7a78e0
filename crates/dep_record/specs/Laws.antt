-- The definitions of a record's text, of its reading and of its sums agree.
use Rattle.std.specs.Prelude.{◌≡◌, ℕ, List, true, Ok}
use Rattle.std.specs.List.{list_all}
use Rattle.order_law.specs.declared.records.Prints.{Prints}
use Rattle.order_law.specs.RecordForm.{is_record_form, is_reach_form}
use Rattle.dep_record.specs.{Hashes.prints_of, RecordReading.said_in}
use Rattle.dep_record.specs.RecordText.{Said, text_of, lines_of, is_hash, has_hashes}

-- the text of what is read is what was read
abbrev pub FoundLaw : Type 0
FoundLaw = (text : List ℕ) (s : Said) → said_in text ≡ Ok s → text_of (lines_of s) ≡ text

-- the text of what has the form of a record is read as that
abbrev pub GivenLaw : Type 0
GivenLaw = (s : Said) → is_record_form s.units s.edges ≡ true → is_reach_form s.units s.more ≡ true → has_hashes s ≡ true → said_in (text_of (lines_of s)) ≡ Ok s

-- each sum of a suite has 32 bytes
pub record AreHashes (x : Prints) : Type 0 where
  pub digest : is_hash x.digest ≡ true
  pub suite : is_hash x.suite ≡ true
  pub classes : list_all is_hash x.classes ≡ true
  pub eager : is_hash x.eager ≡ true

abbrev pub HashesLaw : Type 0
HashesLaw = (suite : List ℕ) (classes : List (List ℕ)) → AreHashes (prints_of suite classes)
