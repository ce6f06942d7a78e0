-- With the record that `detect` wrote a run or an order is one with the suite's own record.
use Rattle.std.proofs.Common.{if◌then◌else◌, false, ◌≡◌, ℕ, List, length, nat_le, Bool, true, Option, Some, None, Result, Ok, Err, refl, sym, ap, ◌∙◌, subst}
use Rattle.std.specs.List.{list_all}
use Rattle.std.proofs.lemmas.Bool.{and_from, le-leb}
use Rattle.order_law.specs.{declared.records.More.More, declared.records.Record.Record, Reach.IsRecordOf}
use Rattle.outside.specs.{Depot.Files, Depot.content, Sink.SinkView}
use Rattle.dep_record.specs.{Laws.AreHashes, RecordReading.said_in}
use Rattle.dep_record.specs.RecordText.{said, record_text, is_hash, more_hashes, has_hashes}
use Rattle.dep_record.proofs.{GivenLaws.given_text, HashLaws.hashes_law}
use Rattle.suite_load.specs.declared.loaded.Loaded.{Loaded}
use Rattle.electrictest.specs.{declared.status.Status.Status, Commands.Asked, Commands.Served, OwnLists.DetectedOrderAnswer, OwnPools.DetectedAnswer}
use Rattle.electrictest.specs.Loads.{LoadsNamed, LoadsAny, quieted, prepared}
use Rattle.electrictest.specs.OwnRecords.{AsksOwnRecord, HoldsSaying, HoldsText}
use Rattle.electrictest.specs.{Records.record_bytes, Records.record_limit, Records.within_limit, Words.Ask, Words.is_eager, Words.suite_word, Words.word_at}
use Rattle.electrictest.proofs.{LoadedFacts.loaded_from, OwnAnswers.own_answer, OwnOrderLaws.own_order_answer, RecordSizes.record_short}

-- ---- a suite that is loaded has sums

named_hashes : (files : Files) (name : List ℕ) (l : Loaded) → LoadsNamed files name (Ok l) → AreHashes l.prints
named_hashes files name l h = subst AreHashes (sym (loaded_from files name l h).1.prints) (hashes_law _ _)

-- so are those of an eager form, whose digest is another of its sums
prepared_hashes : (eager : Bool) (l : Loaded) → AreHashes l.prints → AreHashes (if eager then quieted l else l).prints
prepared_hashes true l h = record { digest = h.eager; suite = h.suite; classes = h.classes; eager = h.eager }
prepared_hashes false l h = h

from_prepared : (files : Files) (name : List ℕ) (eager : Bool) (plain : Result Loaded Status) (l : Loaded) → LoadsNamed files name plain → ◌≡◌ {A = Result Loaded Status} (Ok l) (prepared eager plain) → AreHashes l.prints
from_prepared files name eager (Ok x) l h e = let same : l ≡ (if eager then quieted x else x) = cc in subst (λ (z : Loaded). AreHashes z.prints) (sym same) (prepared_hashes eager x (named_hashes files name x h))
from_prepared files name eager (Err s) l h e = absurd (cc)

pub have_hashes : (files : Files) (eager : Bool) (w : Option (Result (List ℕ) Status)) (l : Loaded) → LoadsAny files eager w (Ok l) → AreHashes l.prints
have_hashes files eager None l h = absurd h
have_hashes files eager (Some (Err s)) l h = absurd (cc)
have_hashes files eager (Some (Ok name)) l h = from_prepared files name eager h.0 l h.1 h.2

-- ---- so the text of its record is read as that record

hashes_of_more : (l : Loaded) (more : Option More) → AreHashes l.prints → ((m : More) → more ≡ Some m → (m.suite ≡ l.prints.suite) × (m.classes ≡ l.prints.classes)) → more_hashes more ≡ true
hashes_of_more l None x h = refl
hashes_of_more l (Some m) x h =
    let same = h m refl in
    and_from _ _ (ap is_hash same.0 ∙ x.suite) (ap (list_all is_hash) same.1 ∙ x.classes)

pub own_hashes : (l : Loaded) (r : Record) → AreHashes l.prints → IsRecordOf l.checked l.prints r → has_hashes (said r) ≡ true
own_hashes l r x is =
    let more = hashes_of_more l r.more x (λ m e. let own = is.more m e in (own.suite, own.classes)) in
    and_from _ _ (ap is_hash is.digest ∙ x.digest) more

pub read_back : (l : Loaded) (r : Record) → AreHashes l.prints → IsRecordOf l.checked l.prints r → said_in (record_text r) ≡ Ok (said r)
read_back l r x is = given_text (said r) r.form r.more_form (own_hashes l r x is)

-- and a file that holds it isn't too large
pub held_text : (files : Files) (name : List ℕ) (r : Record) → has_hashes (said r) ≡ true → content files name ≡ Some (record_text r) → record_bytes files name ≡ Ok (record_text r)
unfolding record_bytes
held_text files name r x holds =
    let short : nat_le (length (record_text r)) record_limit ≡ true = le-leb (length (record_text r)) record_limit (record_short r x) in
    ap (within_limit name) holds ∙ rw short refl

-- so a file that holds the record's text says what the record says
pub says_own : (files : Files) (a : Ask) (l : Loaded) → AsksOwnRecord HoldsText files a l → AsksOwnRecord HoldsSaying files a l
says_own files a l by =
    let hashes = have_hashes files (is_eager a.words) (suite_word a) l by.load in
    let held = held_text files (word_at a.words 2) by.kept (own_hashes l by.kept hashes by.own) by.holds in
    record {
      load = by.load;
      detected = by.detected;
      kept = by.kept;
      own = by.own;
      holds = record { bytes = record_text by.kept; held = held; says = read_back l by.kept hashes by.own };
    }

pub detected_answer : (asked : Asked) (s : Status) (old new : SinkView) → Served asked s old new → DetectedAnswer asked s old new
detected_answer asked s old new h = λ workers log l tests asks.
    own_answer asked s old new h workers log l tests (record { asks = asks.asks; named = asks.named; by = says_own asked.files asked.ask l asks.by })

pub detected_order_answer : (asked : Asked) (s : Status) (old new : SinkView) → Served asked s old new → DetectedOrderAnswer asked s old new
detected_order_answer asked s old new h = λ l tests asks.
    own_order_answer asked s old new h l tests (record { asks = asks.asks; named = asks.named; lawful = asks.lawful; by = says_own asked.files asked.ask l asks.by })
