-- What cones and the manifest are answered with the suite's own record.
use Rattle.std.proofs.Common.{◌≡◌, ℕ, ◌+◌, List, [], ◌∷◌, map, Bool, true, Option, Some, None, Ok, refl, sym, ap, ◌∙◌, subst, inl, inr, arith}
use Rattle.jvm_model.specs.declared.{outcome.Outcome.Outcome, program.Program.Program}
use Rattle.jvm_model.specs.{Linked.Linked, Suite.first_over, Suite.is_detected, Suite.last_outcome, Suite.seq}
use Rattle.order_law.specs.{declared.edges.Edge.Edge, declared.edges.EdgeKind.TheVariants.Raw, Conflicts.HasEdge, Conflicts.Member}
use Rattle.order_law.specs.{Histories.IsTestNumber, Histories.touches_of, OwnRecord.edges_of, OwnRecord.owner, Pairing.no_more, Pairing.one_more}
use Rattle.order_law.proofs.OwnRecord.{is_record}
use Rattle.test_run.specs.Running.{Posted}
use Rattle.cone_run.specs.{declared.marks.Mark.Mark, Cones.AreConesOf, Cones.IsCone, Cones.IsFirstOver, ConesText.outcomes, Marks.HasWriter, Marks.IsMark}
use Rattle.cone_run.proofs.ConeLaw.{own_cone_law}
use Rattle.outside.specs.{Depot.Files, Sink.SinkView}
use Rattle.suite_load.specs.declared.loaded.Loaded.{Loaded}
use Rattle.electrictest.specs.declared.{status.Status.Status, status.InputFault.InputFault, status.OverFault.OverFault, words.Command.Command}
use Rattle.electrictest.specs.declared.words.Command.TheVariants as command
use Rattle.electrictest.specs.{Commands.Asked, Commands.Served, Commands.Whole, ConeRuns.IsConeReport, ConeRuns.IsOverCone, Begun.IsOfSuite, Begun.OfBegun}
use Rattle.electrictest.specs.{Loads.begun_by, Loads.fits_for, Loads.named_by, Records.Beginning, Records.record_fits, Manifests.IsManifest}
use Rattle.electrictest.specs.{OwnRecords.AsksOwnRecord, OwnRecords.HoldsSaying, Words.Ask, Words.Asking}
use Rattle.electrictest.specs.OwnCones.{AsksOwn, HoldsRecord, IsOwnConeReport, IsOwnManifest, IsOwnMark, OwnConesAnswer, OwnManifestAnswer, WroteBy}
use Rattle.electrictest.specs.Replies.{IsRefusedInput, ReportsBy, OversBy}
use Rattle.electrictest.proofs.DetectedLaws.{says_own}
use Rattle.electrictest.proofs.OwnRecordLaws.{own_start, begun_by_own, never_refused, of_start, own_ends}

-- ---- cones by the suite's own edges

module _ (p : Program) (R : List Edge) (same : R ≡ edges_of p) (linked : Linked p) (detected : is_detected p ≡ true) where
  cone_own : (t : ℕ) (list : List ℕ) → IsTestNumber p t → IsCone R t list → (first_over p list ≡ None) × (last_outcome p list ≡ seq p t)
  cone_own t list number cone = own_cone_law p t list linked detected number (subst (λ (S : List Edge). IsCone S t list) same cone)

  pieces_own : {sel : List ℕ} {xs : List Posted} → ((t : ℕ) → Member t sel → IsTestNumber p t) → AreConesOf p R sel xs → map (λ t. seq p t) sel ≡ map (λ o. Some o) (outcomes xs)
  pieces_own number no_more = refl
  pieces_own number (one_more {x = t} {y = x} {xs = sel} {ys = xs} r rs) =
      let here : seq p t ≡ Some x.outcome = sym (cone_own t x.list (number t (inl refl)) r.cone).1 ∙ r.gives in
      ap (λ (o : Option Outcome). o ∷ map (λ u. seq p u) sel) here ∙ ap (λ (os : List (Option Outcome)). Some x.outcome ∷ os) (pieces_own (λ u m. number u (inr m)) rs)

  later_number : (u t : ℕ) → HasEdge R Raw u t → IsTestNumber p t
  later_number u t e =
      let edge = (is_record p (touches_of p) (owner p) Raw u t).0 (subst (λ (S : List Edge). HasEdge S Raw u t) same e) in
      (omega (arith, edge.0, edge.3.0), edge.1)

  mark_own : (m : Mark) → IsMark p R m → IsOwnMark p R m
  mark_own m h = record {
    list = h.list;
    cone = h.cone;
    outcome = h.outcome;
    own = sym (cone_own m.test h.list (later_number m.writer m.test h.edge) h.cone).1 ∙ h.gives;
    effect = h.effect;
  }

  none_first : (S : ℕ → Type 0) (u : ℕ) → ((t : ℕ) → S t → IsTestNumber p t) → IsFirstOver p R S u → ⊥
  none_first S u number h = let e = sym h.over ∙ (cone_own h.test h.list (number h.test h.within) h.cone).0 in absurd (cc)

-- ---- the words of such a command

-- the file says what the record says, also where it holds the record's text
says_any : (files : Files) (a : Ask) (l : Loaded) → AsksOwnRecord HoldsRecord files a l → AsksOwnRecord HoldsSaying files a l
says_any files a l by = elim by.holds [
  | inl h ↦ record { load = by.load; detected = by.detected; kept = by.kept; own = by.own; holds = h }
  | inr h ↦ says_own files a l (record { load = by.load; detected = by.detected; kept = by.kept; own = by.own; holds = h })
]

module _ (c : Command) (IsReport : Loaded → Beginning → Bool → List ℕ → ℕ → Type 0) (S : Beginning → ℕ → Type 0) (files : Files) (a : Ask) (l : Loaded) (tests : List ℕ) (own : AsksOwn c files a l tests)
    (fits : fits_for (Ok c) ≡ record_fits) where
  abbrev saying : AsksOwnRecord HoldsSaying files a l
  saying = says_any files a l own.by

  abbrev start : Beginning
  start = own_start files a l saying tests

  begun_here : begun_by files a l ≡ Some (Ok start)
  begun_here = begun_by_own files a l saying tests (ap (λ (x : Asking). named_by x a.words l) own.asks ∙ own.named) (ap fits_for own.asks ∙ fits)

  wrote : (IsOwn : Beginning → Bool → List ℕ → ℕ → Type 0)
      (law : (b : Beginning) (passed : Bool) (text : List ℕ) (units : ℕ) → IsOfSuite l b → b.said.edges ≡ edges_of l.checked → IsReport l b passed text units → IsOwn b passed text units)
      (asked : Asked) (passed : Bool) (text : List ℕ) (units : ℕ) (old new : SinkView) → OfBegun (λ x b. IsReport x b passed text units) files a → Whole text old new → asked.now ≡ asked.begun + units →
      WroteBy IsOwn asked l tests passed old new
  wrote IsOwn law asked passed text units old new r whole counts =
      let here = of_start files a l start saying.load begun_here (λ x b. IsReport x b passed text units) r in
      record {
        beginning = start;
        tests_are = refl;
        edges_are = saying.own.edges;
        text = text;
        units = units;
        report = law start passed text units here.0 saying.own.edges here.1;
        whole = whole;
        steps = counts;
      }

  never_over : (number : (b : Beginning) → IsOfSuite l b → b.said.edges ≡ edges_of l.checked → (t : ℕ) → S b t → IsTestNumber l.checked t) (f : OverFault) → OfBegun (λ x b. IsOverCone x b (S b) f) files a → ⊥
  never_over number f r =
      let here = of_start files a l start saying.load begun_here (λ x b. IsOverCone x b (S b) f) r in
      none_first l.checked start.said.edges saying.own.edges here.0.linked saying.detected (S start) here.1.test (number start here.0 saying.own.edges) here.1.first

  not_refused : (◌≡◌ {A = Asking} (Ok c) (Ok command.Order) → ⊥) → (f : InputFault) → IsRefusedInput files a f → ⊥
  not_refused no_order = never_refused files a l start saying.load begun_here (λ e. absurd (no_order (sym own.asks ∙ e)))

pub own_cones_answer : (asked : Asked) (s : Status) (old new : SinkView) → Served asked s old new → OwnConesAnswer asked s old new
own_cones_answer asked s old new h = λ workers l tests own.
    let c = command.Cones workers in
    let files = asked.files in
    let a = asked.ask in
    own_ends (WroteBy (IsOwnConeReport l) asked l tests) asked old new
    (λ passed text units r. wrote c IsConeReport (λ b t. Member t b.tests) files a l tests own refl (IsOwnConeReport l)
    (λ b passed text units suite edges report. record {
      report = report;
      own = pieces_own l.checked b.said.edges edges suite.linked own.by.detected (λ t m. suite.tests t ((report.once.exact t).0 m)) report.cones;
    })
    asked passed text units old new (subst (λ (x : Asking). ReportsBy x files a passed text units) own.asks r))
    (λ e. let none = sym own.asks ∙ e in absurd (cc))
    (not_refused c IsConeReport (λ b t. Member t b.tests) files a l tests own refl (λ e. absurd (cc)))
    (λ f r. never_over c IsConeReport (λ b t. Member t b.tests) files a l tests own refl (λ b suite edges. suite.tests) f (subst (λ (x : Asking). OversBy x files a f) own.asks r))
    s h

pub own_manifest_answer : (asked : Asked) (s : Status) (old new : SinkView) → Served asked s old new → OwnManifestAnswer asked s old new
own_manifest_answer asked s old new h = λ l own.
    let c = command.Manifest in
    let files = asked.files in
    let a = asked.ask in
    own_ends (WroteBy (IsOwnManifest l) asked l []) asked old new
    (λ passed text units r. wrote c IsManifest (λ b. HasWriter b.said.edges) files a l [] own refl (IsOwnManifest l)
    (λ b passed text units suite edges report. record {
      report = report;
      own = λ m i. mark_own l.checked b.said.edges edges suite.linked own.by.detected m (report.are.each m i);
    })
    asked passed text units old new (subst (λ (x : Asking). ReportsBy x files a passed text units) own.asks r))
    (λ e. let none = sym own.asks ∙ e in absurd (cc))
    (not_refused c IsManifest (λ b. HasWriter b.said.edges) files a l [] own refl (λ e. absurd (cc)))
    (λ f r. never_over c IsManifest (λ b. HasWriter b.said.edges) files a l [] own refl
    (λ b suite edges t w. later_number l.checked b.said.edges edges suite.linked own.by.detected w.0 t w.1) f (subst (λ (x : Asking). OversBy x files a f) own.asks r))
    s h
