-- With the record that `detect` wrote of the suite's earlier state, each test that an impact doesn't name has the lines that it had.
use Rattle.std.proofs.Common.{◌≡◌, ℕ, zero, suc, ◌+◌, ◌<◌, ◌≤◌, List, [], ◌∷◌, length, map, slice_get, filter, Bool, true, false, cond, ◌==◌, refl, sym, ap, ◌∙◌, subst, inl, inr, arith, Option, Some, None, option_map, unwrap_or, IsSome, Result, Ok}
use Rattle.std.specs.{List.range_with_len, Str.bytes_eq}
use Rattle.std.proofs.lemmas.{Bool.cases_eq, Bool.eq-eqb, Bool.false≢true, List.length-map, Slice.Eq.bytes_eq-Decides, List.FromFn.length-map-range_with_len}
use Rattle.std.proofs.lemmas.Bool.{false_from_ne_true}
use Rattle.sha2.specs.Sha256.{sha256}
use Rattle.jvm_model.specs.{declared.program.Names.Names, declared.program.Program.Program, Texts.outcome_lines, Suite.is_detected, Suite.seq}
use Rattle.order_law.specs.{declared.records.More.More, declared.records.Prints.Prints, declared.records.Record.Record, Conflicts.Member}
use Rattle.order_law.specs.{Histories.IsTestNumber, Reach.IsMoreOf, Reach.IsRecordOf, Reach.units_in}
use Rattle.outside.specs.{Depot.Files, Sink.SinkView}
use Rattle.dep_record.specs.{Laws.AreHashes, RecordText.said, RecordText.record_text}
use Rattle.suite_load.specs.declared.{suite_text.SuiteText.SuiteText, loaded.Loaded.Loaded, load_fault.LoadFault.LoadFault}
use Rattle.suite_load.specs.Loading.{bytes_of, lines_of, names_in}
use Rattle.suite_load.proofs.{GoodLines.IsGood, LinkedCounts.tests_linked}
use Rattle.impact_pick.specs.{Pick.changed, Pick.is_picked, Pick.picked, ImpactText.impact_text}
use Rattle.impact_pick.proofs.ImpactLaw.{impact_law}
use Rattle.electrictest.specs.declared.status.{Status.Status, InputFault.InputFault, OverFault.OverFault}
use Rattle.electrictest.specs.declared.words.Command.TheVariants as command
use Rattle.electrictest.specs.{Commands.Asked, Commands.Served, Commands.Whole, Impacts.IsImpacted}
use Rattle.electrictest.specs.EarlierRecords.{AsksEarlier, WroteImpact, EarlierAnswer, KeptLines, lines_in}
use Rattle.electrictest.specs.Loads.{LoadsFor, LoadsAny, begun_by, fits_for, named_by}
use Rattle.electrictest.specs.Records.{Beginning, nameless, begun, record_at, record_bytes, suite_fits, classes_fit, earlier_fits}
use Rattle.electrictest.specs.Replies.{ReportsBy, OversBy}
use Rattle.electrictest.specs.Words.{Ask, Asking, is_eager, suite_named, suite_word, word_at}
use Rattle.electrictest.proofs.DetectedLaws.{have_hashes, held_text, own_hashes, read_back}
use Rattle.electrictest.proofs.LoadedFacts.{IsLoaded, loaded_from, plain_named, as_many, are_classes, sums_tell, is_good, same_suite}
use Rattle.electrictest.proofs.OwnRecordLaws.{never_refused, starts_once, own_ends}

-- ---- what isn't named isn't picked

module _ (keeps : ℕ → Bool) where
  kept_here : (b : Bool) (t : ℕ) (ts : List ℕ) → b ≡ true → Member t (cond b (t ∷ ts) ts)
  kept_here true t ts e = inl refl
  kept_here false t ts e = absurd (cc)

  kept_behind : (b : Bool) (t u : ℕ) (ts : List ℕ) → Member t ts → Member t (cond b (u ∷ ts) ts)
  kept_behind true t u ts i = inr i
  kept_behind false t u ts i = i

  kept_from : (n a t : ℕ) → a ≤ t → t < a + n → keeps t ≡ true → Member t (filter keeps (range_with_len a n))
  kept_from zero a t lo hi e = absurd (omega arith)
  kept_from (suc n) a t lo hi e = elim (cases_eq t a) [
    | inl same ↦ subst (λ (z : ℕ). Member z (filter keeps (range_with_len a (suc n)))) (sym same) (kept_here (keeps a) a (filter keeps (range_with_len (a + 1) n)) (ap keeps (sym same) ∙ e))
    | inr other ↦ kept_behind (keeps a) t a (filter keeps (range_with_len (a + 1) n)) (kept_from n (a + 1) t (omega arith) (omega arith) e)
  ]

unpicked_from : (m : More) (q : Program) (x : Prints) (t : ℕ) → length m.reach ≡ length q.tests → IsTestNumber q t → (Member t (picked m q x) → ⊥) → is_picked m q x t ≡ false
unfolding picked
unpicked_from m q x t many number unnamed =
    let low = number.0 in
    let high = number.1 in
    false_from_ne_true (is_picked m q x t) (λ e. unnamed (kept_from (is_picked m q x) (length m.reach) 1 t (omega arith) (omega arith) e))

-- ---- the record of the earlier state

names_suite : (a : Ask) → a.command ≡ Ok command.Impact → suite_word a ≡ Some (Ok (word_at a.words 1))
names_suite a e = ap (λ (c : Asking). suite_named c a.words) e

loads_suite : (files : Files) (a : Ask) (l : Loaded) → is_eager a.words ≡ false → a.command ≡ Ok command.Impact → LoadsFor files a (Ok l) → (suite : SuiteText) × IsLoaded files (word_at a.words 1) suite l
loads_suite files a l n e h =
    let plain : LoadsAny files false (suite_word a) (Ok l) = subst (λ (b : Bool). LoadsAny files b (suite_word a) (Ok l)) n h in
    loaded_from files (word_at a.words 1) l (plain_named files (word_at a.words 1) l (subst (λ (w : Option (Result (List ℕ) Status)). LoadsAny files false w (Ok l)) (names_suite a e) plain))

-- version 2 of a record adds something
record HasMore (r : Record) : Type 0 where
  more : More
  is : r.more ≡ Some more

has_more : (r : Record) (o : Option More) → r.more ≡ o → IsSome o → HasMore r
has_more r None e h = absurd (false≢true h)
has_more r (Some m) e h = record { more = m; is = e }

module _ (before now : Files) (a : Ask) (was l : Loaded) (plain : is_eager a.words ≡ false) (asks : AsksEarlier before now a was l) where
  abbrev kept : Record
  kept = asks.found.found.kept

  own : IsRecordOf was.checked was.prints kept
  own = asks.found.is.kept

  has : HasMore kept
  has = has_more kept kept.more refl asks.found.is.newer

  adds : IsMoreOf was.checked was.prints has.more
  adds = own.more has.more has.is

  -- both are loaded from one suite text
  suite : SuiteText
  suite = (loads_suite before a was plain asks.asks asks.load_before).0

  first : IsLoaded before (word_at a.words 1) suite was
  unfolding suite
  first = (loads_suite before a was plain asks.asks asks.load_before).1

  second : IsLoaded now (word_at a.words 1) suite l
  second =
      let loaded = loads_suite now a l plain asks.asks asks.load in
      let both : ◌≡◌ {A = Result SuiteText LoadFault} (Ok loaded.0) (Ok suite) = sym loaded.1.suite_is ∙ (sym (same_suite before now (word_at a.words 1) asks.same_text) ∙ first.suite_is) in
      let same : loaded.0 ≡ suite = cc in
      subst (λ (s : SuiteText). IsLoaded now (word_at a.words 1) s l) same loaded.1

  same_sum : was.prints.suite ≡ l.prints.suite
  same_sum =
      ap (λ (x : Prints). x.suite) first.prints ∙ (ap (λ (o : Option (List ℕ)). sha256 (unwrap_or o [])) asks.same_text ∙ sym (ap (λ (x : Prints). x.suite) second.prints))

  good : IsGood suite
  good = is_good before (word_at a.words 1) suite first.suite_is

  tests_many : length was.checked.tests ≡ length l.checked.tests
  tests_many =
      tests_linked suite first.classes (lines_of suite) was.checked was.checked good.lines refl first.links refl
      ∙ sym (tests_linked suite second.classes (lines_of suite) l.checked l.checked good.lines refl second.links refl)

  classes_many : length first.classes ≡ length second.classes
  classes_many = as_many before suite.classes first.classes first.read ∙ sym (as_many now suite.classes second.classes second.read)

  -- there is a sum for each class file
  sums_many : (files : Files) (x : Loaded) (is : IsLoaded files (word_at a.words 1) suite x) → length x.prints.classes ≡ length is.classes
  sums_many files x is =
      ap (λ (z : Prints). length z.classes) is.prints
      ∙ (length-map (map (bytes_of files) suite.classes) sha256 ∙ (length-map suite.classes (bytes_of files) ∙ sym (as_many files suite.classes is.classes is.read)))

  units_many : length kept.units ≡ length l.checked.tests
  units_many = ap length own.units ∙ (length-map-range_with_len (λ t. units_in (seq was.checked t)) 1 (length was.checked.tests) ∙ tests_many)

  prints_many : length has.more.classes ≡ length l.prints.classes
  prints_many = ap length adds.classes ∙ (sums_many before was first ∙ (classes_many ∙ sym (sums_many now l second)))

  -- so it is one that the command takes
  suite_ok : suite_fits l kept.more ≡ Ok tt
  suite_ok =
      let same : bytes_eq has.more.suite l.prints.suite ≡ true = (bytes_eq-Decides has.more.suite l.prints.suite).1 (adds.suite ∙ same_sum) in
      ap (suite_fits l) has.is ∙ rw same refl

  classes_ok : classes_fit l kept.more ≡ Ok tt
  classes_ok =
      let many : (length has.more.classes == length l.prints.classes) ≡ true = eq-eqb (length has.more.classes) (length l.prints.classes) prints_many in
      ap (classes_fit l) has.is ∙ rw many refl

  fits : earlier_fits l (said kept) ≡ Ok tt
  unfolding earlier_fits
  fits =
      let many : (length kept.units == length l.checked.tests) ≡ true = eq-eqb (length kept.units) (length l.checked.tests) units_many in
      rw suite_ok (rw many classes_ok)

  texts : asks.text ≡ record_text kept
  texts = asks.found.writes

  hashes : AreHashes was.prints
  hashes = have_hashes before (is_eager a.words) (suite_word a) was asks.load_before

  held : record_bytes now (word_at a.words 2) ≡ Ok (record_text kept)
  held = held_text now (word_at a.words 2) kept (own_hashes was kept hashes own) (asks.holds ∙ ap (λ (t : List ℕ). Some t) texts)

  begun_earlier : begun earlier_fits now l (Ok []) (word_at a.words 2) ≡ Ok (nameless kept)
  unfolding begun record_at
  begun_earlier = rw held (rw (read_back was kept hashes own) (rw fits refl))

  begun_here : begun_by now a l ≡ Some (Ok (nameless kept))
  begun_here =
      ap (λ (c : Asking). option_map (λ (n : Result (List ℕ) InputFault). begun (fits_for c) now l n (word_at a.words 2)) (named_by c a.words l)) asks.asks
      ∙ ap (λ (r : Result Beginning InputFault). Some r) begun_earlier

  -- ---- the law of changed class files

  lines_same : is_detected l.checked ≡ true → (t : ℕ) → IsTestNumber l.checked t → is_picked has.more l.checked l.prints t ≡ false → KeptLines was l t
  lines_same detected t number unpicked =
      let few : length first.classes ≤ 1024 = subst (λ (n : ℕ). n ≤ 1024) (sym (as_many before suite.classes first.classes first.read)) good.few_classes in
      let low : IsTestNumber was.checked t = subst (λ (n : ℕ). (0 < t) × (t ≤ n)) (sym tests_many) number in
      let tell = sums_tell before now asks.sums_tell suite.classes first.classes second.classes first.read second.read in
      let names = map (λ x. x.name) suite.tests in
      let law =
      impact_law first.classes second.classes (lines_of suite) was.checked l.checked was.prints l.prints kept has.more names t (are_classes before suite.classes first.classes asks.bytes_before first.read) (are_classes now suite.classes second.classes asks.bytes_now second.read)
      few classes_many good.lines first.links second.links asks.found.is.detected detected (sums_many before was first) (sums_many now l second)
      (λ j h x y. tell j h (subst (λ (z : Prints). slice_get z.classes j ≡ Some h) first.prints x) (subst (λ (z : Prints). slice_get z.classes j ≡ Some h) second.prints y)) own has.is low unpicked in
      subst (λ (z : Names). IsSome (option_map (outcome_lines z t) (seq was.checked t)) × (lines_in l t ≡ option_map (outcome_lines z t) (seq was.checked t))) (sym first.names)
      (subst (λ (z : Names). IsSome (option_map (outcome_lines (names_in suite was.checked) t) (seq was.checked t)) × (option_map (outcome_lines z t) (seq l.checked t) ≡ option_map (outcome_lines (names_in suite was.checked) t) (seq was.checked t))) (sym second.names) law)

  -- ---- answers

  wrote : (passed : Bool) (text : List ℕ) (units : ℕ) (old new : SinkView) → IsImpacted now a passed text units → Whole text old new → WroteImpact was l passed old new
  unfolding impact_text
  wrote passed text units old new r whole =
      let same = starts_once now a l (nameless kept) asks.load begun_here r.loaded r.beginning r.begins in
      let more : r.more ≡ has.more = (let z = sym r.newer ∙ (ap (λ (b : Beginning). b.said.more) same.1 ∙ has.is) in cc) in
      let here : text ≡ impact_text l.names has.more l.checked l.prints = r.reports ∙ (ap (λ (x : Loaded). impact_text x.names r.more x.checked x.prints) same.0 ∙ ap (λ (m : More). impact_text l.names m l.checked l.prints) more) in
      record {
        ends = r.ends;
        files = changed has.more l.prints;
        tests = picked has.more l.checked l.prints;
        whole = subst (λ (z : List ℕ). Whole z old new) here whole;
        same = λ detected t number unnamed. lines_same detected t number (unpicked_from has.more l.checked l.prints t (adds.length ∙ tests_many) number unnamed);
      }

  reports_impact : (passed : Bool) (text : List ℕ) (units : ℕ) → ReportsBy a.command now a passed text units → IsImpacted now a passed text units
  reports_impact passed text units r = subst (λ (c : Asking). ReportsBy c now a passed text units) asks.asks r

  never_over : (f : OverFault) → OversBy a.command now a f → ⊥
  never_over f r = subst (λ (c : Asking). OversBy c now a f) asks.asks r

pub earlier_answer : (asked : Asked) (s : Status) (old new : SinkView) → (asked.ask.command ≡ Ok command.Impact → is_eager asked.ask.words ≡ false) → Served asked s old new → EarlierAnswer asked s old new
earlier_answer asked s old new plain h = λ before was l asks.
    let files = asked.files in
    let a = asked.ask in
    let p = plain asks.asks in
    own_ends (WroteImpact was l) asked old new
    (λ passed text units r whole counts. wrote before files a was l p asks passed text units old new (reports_impact before files a was l p asks passed text units r) whole)
    (λ e. let none = sym asks.asks ∙ e in absurd (cc))
    (never_refused files a l (nameless (kept before files a was l p asks)) asks.load (begun_here before files a was l p asks) (λ c. let none = sym asks.asks ∙ c in absurd (cc)))
    (never_over before files a was l p asks)
    s h
