-- What a command begins with, and is answered, with the suite's own record.
use Rattle.std.proofs.Common.{◌≡◌, ℕ, ◌+◌, List, length, Bool, true, false, ◌==◌, Option, Some, None, option_map, unwrap_or, Result, Ok, Err, refl, sym, ap, ◌∙◌, subst}
use Rattle.std.specs.Str.{bytes_eq}
use Rattle.std.proofs.lemmas.{Bool.eq-eqb, Slice.Eq.bytes_eq-Decides, List.FromFn.length-map-range_with_len}
use Rattle.jvm_model.specs.Suite.{seq}
use Rattle.order_law.specs.{declared.records.More.More, declared.records.Record.Record, Reach.IsRecordOf, Reach.units_in}
use Rattle.outside.specs.{Depot.Files, Sink.SinkView}
use Rattle.dep_record.specs.RecordText.{Said, said}
use Rattle.suite_load.specs.declared.loaded.Loaded.{Loaded}
use Rattle.suite_load.proofs.LoadOnce.{loads_once}
use Rattle.electrictest.specs.declared.status.{Status.Status, InputFault.InputFault, OverFault.OverFault}
use Rattle.electrictest.specs.declared.status.Status.TheVariants as ends
use Rattle.electrictest.specs.declared.words.Command.TheVariants as command
use Rattle.electrictest.specs.{Begun.IsOfSuite, Begun.OfBegun, Orders.IsUnlawful}
use Rattle.electrictest.specs.{Commands.Asked, Commands.Served, Commands.Whole, OwnRecords.AsksOwnRecord, OwnRecords.HoldsSaying, OwnRecords.OwnEndsBy}
use Rattle.electrictest.specs.Loads.{LoadsFor, LoadsNamed, LoadsAny, answered, prepared, Begins, begun_by, fits_for, named_by}
use Rattle.electrictest.specs.Records.{Beginning, begun, record_at, record_fits, classes_fit}
use Rattle.electrictest.specs.Replies.{IsRefusedInput, unloaded, unbegun, unlawful, Reports, OversBy}
use Rattle.electrictest.specs.Words.{Ask, is_eager, word_at, suite_word, unformed}

-- ---- a suite is loaded in one way

named_once : (files : Files) (name : List ℕ) (x y : Result Loaded Status) → LoadsNamed files name x → LoadsNamed files name y → x ≡ y
named_once files name x y h k = h.2 ∙ (ap answered ((loads_once files name).2 h.0 h.1 ∙ sym ((loads_once files name).2 k.0 k.1)) ∙ sym k.2)

pub any_once : (files : Files) (eager : Bool) (w : Option (Result (List ℕ) Status)) (x y : Result Loaded Status) → LoadsAny files eager w x → LoadsAny files eager w y → x ≡ y
any_once files eager None x y h k = absurd h
any_once files eager (Some (Err s)) x y h k = h ∙ sym k
any_once files eager (Some (Ok name)) x y h k = h.2 ∙ (ap (prepared eager) (named_once files name h.0 k.0 h.1 k.1) ∙ sym k.2)

loaded_or : Loaded → Result Loaded Status → Loaded
loaded_or l (Ok x) = x
loaded_or l (Err s) = l

pub loaded_once : (files : Files) (a : Ask) (l x : Loaded) → LoadsFor files a (Ok l) → LoadsFor files a (Ok x) → x ≡ l
unfolding loaded_or
loaded_once files a l x h k = ap (loaded_or l) (any_once files (is_eager a.words) (suite_word a) (Ok x) (Ok l) k h)

-- ---- so it begins in one way

-- what is begun is this suite and this start
pub record IsStart (l x : Loaded) (start : Beginning) (b : Result Beginning InputFault) : Type 0 where
  pub loaded : x ≡ l
  pub begins : b ≡ Ok start

beginning_or : Beginning → Result Beginning InputFault → Beginning
beginning_or b (Ok x) = x
beginning_or b (Err f) = b

module _ (files : Files) (a : Ask) (l : Loaded) (start : Beginning) (load : LoadsFor files a (Ok l)) (here : begun_by files a l ≡ Some (Ok start)) where
  pub begins_once : (x : Loaded) (b : Result Beginning InputFault) → Begins files a x b → IsStart l x start b
  begins_once x b h =
      let same : x ≡ l = loaded_once files a l x load h.load in
      record { loaded = same; begins = ap (λ (o : Option (Result Beginning InputFault)). unwrap_or o b) (sym h.begins ∙ (ap (begun_by files a) same ∙ here)) }

  pub starts_once : (x : Loaded) (b : Beginning) → Begins files a x (Ok b) → (x ≡ l) × (b ≡ start)
  unfolding beginning_or
  starts_once x b h = let s = begins_once x (Ok b) h in (s.loaded, ap (λ (r : Result Beginning InputFault). beginning_or b r) s.begins)

  -- so what is said of what is begun is said of these
  pub of_start : (Is : Loaded → Beginning → Type 0) → OfBegun Is files a → IsOfSuite l start × Is l start
  of_start Is r =
      let same = starts_once r.loaded r.beginning r.begins in
      subst (λ (y : Loaded × Beginning). IsOfSuite y.0 y.1 × Is y.0 y.1) (λ i. (same.0 i, same.1 i)) (r.suite, r.is)

  -- and the input is refused only for an order that isn't lawful
  pub never_refused : (a.command ≡ Ok command.Order → (f : InputFault) → IsUnlawful l start f → ⊥) → (f : InputFault) → IsRefusedInput files a f → ⊥
  never_refused lawful f (unloaded h) = let e = any_once files (is_eager a.words) (suite_word a) (Ok l) (Err (ends.Input f)) load h in absurd (cc)
  never_refused lawful f (unbegun {l = x} h) = let e = (begins_once x (Err f) h).begins in absurd (cc)
  never_refused lawful f (unlawful {l = x} {b = b} c h u) = let same = starts_once x b h in lawful c f (subst (λ (y : Loaded × Beginning). IsUnlawful y.0 y.1 f) (λ i. (same.0 i, same.1 i)) u)

-- ---- the suite's own record is of the suite

classes_own : (l : Loaded) (more : Option More) → ((m : More) → more ≡ Some m → m.classes ≡ l.prints.classes) → classes_fit l more ≡ Ok tt
classes_own l None h = refl
classes_own l (Some m) h = rw (eq-eqb (length m.classes) (length l.prints.classes) (ap length (h m refl))) refl

fits_own : (l : Loaded) (r : Record) → IsRecordOf l.checked l.prints r → record_fits l (said r) ≡ Ok tt
unfolding record_fits
fits_own l r own =
    let digest : bytes_eq r.digest l.prints.digest ≡ true = (bytes_eq-Decides r.digest l.prints.digest).1 own.digest in
    let units : (length r.units == length l.checked.tests) ≡ true =
    eq-eqb (length r.units) (length l.checked.tests) (ap length own.units ∙ length-map-range_with_len (λ t. units_in (seq l.checked t)) 1 (length l.checked.tests)) in
    rw digest (rw units (classes_own l r.more (λ m e. (own.more m e).classes)))

module _ (files : Files) (a : Ask) (l : Loaded) (by : AsksOwnRecord HoldsSaying files a l) (tests : List ℕ) where
  -- what such words begin with, where they name these tests
  abbrev pub own_start : Beginning
  own_start = record { tests = tests; said = said by.kept }

  begun_own : begun record_fits files l (Ok tests) (word_at a.words 2) ≡ Ok own_start
  unfolding begun record_at
  begun_own = rw by.holds.held (rw by.holds.says (rw (fits_own l by.kept by.own) refl))

  pub begun_by_own : named_by a.command a.words l ≡ Some (Ok tests) → fits_for a.command ≡ record_fits → begun_by files a l ≡ Some (Ok own_start)
  begun_by_own named fits =
      ap (λ (o : Option (Result (List ℕ) InputFault)). option_map (λ n. begun (fits_for a.command) files l n (word_at a.words 2)) o) named
      ∙ (ap (λ (f : Loaded → Said → Result (Unit {0}) InputFault). Some (begun f files l (Ok tests) (word_at a.words 2))) fits
      ∙ ap (λ (r : Result Beginning InputFault). Some r) begun_own)

-- ---- answers

-- what is answered by what was written, where neither the words, the input nor a number of units can be refused
module _ (Wrote : Bool → SinkView → SinkView → Type 0) (asked : Asked) (old new : SinkView)
    (wrote : (passed : Bool) (text : List ℕ) (units : ℕ) → Reports asked.files asked.ask passed text units → Whole text old new → asked.now ≡ asked.begun + units → Wrote passed old new)
    (formed : asked.ask.command ≡ unformed → ⊥) (taken : (f : InputFault) → IsRefusedInput asked.files asked.ask f → ⊥)
    (within : (f : OverFault) → OversBy asked.ask.command asked.files asked.ask f → ⊥) where
  pub own_ends : (s : Status) → Served asked s old new → OwnEndsBy Wrote s old new
  own_ends ends.Done h = wrote true h.reply.text h.reply.units h.reply.answers h.whole h.reply.counted
  own_ends ends.NotPassed h = wrote false h.reply.text h.reply.units h.reply.answers h.whole h.reply.counted
  own_ends ends.NoMemory h = h
  own_ends ends.Sink h = tt
  own_ends (ends.Depot name) h = tt
  own_ends ends.Words h = formed h.reply.answers.0
  own_ends (ends.Input f) h = taken f h.reply.answers.0
  own_ends (ends.Over f) h = within f h.reply.answers.0
