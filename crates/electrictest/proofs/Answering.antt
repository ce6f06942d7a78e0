-- A report, or why there is none, answers what is asked.
use Rattle.std.proofs.Common.{◌≡◌, ◌≤◌, ℕ, List, Bool, true, Some, Result, Ok, Err, IfOk, IfErr, refl, sym, subst}
use Rattle.outside.specs.Depot.{Files, DepotView, MayHold, OfHeld, TellsOn}
use Rattle.order_law.specs.OrderFault.{OrderFault, twice, missing_writer, inverted}
use Rattle.jvm_model.specs.declared.program.Names.{Names}
use Rattle.suite_load.specs.declared.loaded.Loaded.{Loaded}
use Rattle.electrictest.specs.declared.{reports.Report.Report, status.InputFault.InputFault, status.OverFault.OverFault, status.Status.Status, words.Command.Command}
use Rattle.electrictest.specs.declared.status.Status.TheVariants as ends
use Rattle.electrictest.specs.declared.words.Command.TheVariants as command
use Rattle.electrictest.specs.{Begun.AreCounted, Begun.IsOfSuite, Begun.OfBegun, Begun.OfLoaded, Begun.OnlyOver, Wholes.IsOver, Wholes.IsOverWhole}
use Rattle.electrictest.specs.{Causes.MayRefuse, Causes.MayReport, Causes.runs_tests, Loads.LoadsFor, Loads.begun_by, Records.Beginning, Running.OrderRefused, Words.Ask, Words.Asking}
use Rattle.electrictest.specs.{Commands.Answers, Commands.AnswersOver, Commands.IsProperInput, Commands.ReportEnds, Commands.Reported}
use Rattle.electrictest.specs.{Orders.IsOrderReport, Orders.IsOverOrder, Orders.order_input, Replies.OversBy, Replies.ReportsBy, Replies.Unreported, Replies.unlawful}
use Rattle.electrictest.proofs.AskedFor.{may_report, overs_as, reports_as}

-- units are counted of what follows too
pub counted_as : {P Q : ℕ → Type 0} (begun now : ℕ) → ((n : ℕ) → P n → Q n) → AreCounted P begun now → AreCounted Q begun now
counted_as begun now f h = record { units = h.units; report = f h.units h.report; counts = h.counts }

module _ (Holds : Files → Type 0) (a : Ask) (old new : DepotView) (told : TellsOn old.told new.told) (faults : old.faults ≤ new.faults) (begun now : ℕ) where
  pub reported_by : (r : Report) → OfHeld new.told (λ files. Holds files → Reported files a r.passed r.text begun now) → MayReport a.command r.passed → Answers Holds a old new begun now (Ok r)
  reported_by r reports form = record { told = told; faults = faults; reports = reports; refused = tt; form = form; ends = tt }

  pub refused_by : (s : Status) → OfHeld new.told (λ files. Holds files → Unreported files a s) → ReportEnds a s old new → Answers Holds a old new begun now (Err s)
  refused_by s refused ends = record { told = told; faults = faults; reports = tt; refused = refused; form = tt; ends = ends }

  pub no_memory : Answers Holds a old new begun now (Err ends.NoMemory)
  no_memory = refused_by ends.NoMemory (λ files may held. tt) tt

-- ---- a command over a loaded suite that runs tests

module _ (c : Command) (a : Ask) (l : Loaded) (asks : a.command ≡ Ok c) (old new : DepotView) (told : TellsOn old.told new.told) (faults : old.faults ≤ new.faults) (begun now : ℕ) where
  -- from what it reports, and why it doesn't
  ran_answers : (IsReport : Bool → List ℕ → ℕ → Type 0) (Refused : Status → Type 0) (result : Result Report Status) →
      ((files : Files) → MayHold new.told files → LoadsFor files a (Ok l) → (passed : Bool) (text : List ℕ) (units : ℕ) → IsReport passed text units → ReportsBy (Ok c) files a passed text units) →
      ((passed : Bool) (text : List ℕ) (units : ℕ) → IsReport passed text units → MayReport (Ok c) passed) →
      ((s : Status) → Refused s → OfHeld new.told (λ files. LoadsFor files a (Ok l) → Unreported files a s) × ReportEnds a s old new) →
      IfOk result (λ r. AreCounted (IsReport r.passed r.text) begun now) → IfErr result Refused → AnswersOver l a old new begun now result
  ran_answers IsReport Refused (Ok r) by form why is refused =
      reported_by (λ files. LoadsFor files a (Ok l)) a old new told faults begun now r
      (λ files may load. counted_as begun now (λ n h. reports_as (Ok c) files a r.passed r.text n asks (by files may load r.passed r.text n h)) is)
      (subst (λ (d : Asking). MayReport d r.passed) (sym asks) (form r.passed r.text is.units is.report))
  ran_answers IsReport Refused (Err s) by form why is refused =
      let h = why s refused in refused_by (λ files. LoadsFor files a (Ok l)) a old new told faults begun now s h.0 h.1

  -- a number of units that is passed
  over_refused : (IsOver : OverFault → Type 0) → runs_tests c ≡ true → ((files : Files) → MayHold new.told files → LoadsFor files a (Ok l) → (f : OverFault) → IsOver f → OversBy (Ok c) files a f) →
      (s : Status) → OnlyOver IsOver s → OfHeld new.told (λ files. LoadsFor files a (Ok l) → Unreported files a s) × ReportEnds a s old new
  over_refused IsOver runs by ends.NoMemory h = (λ files may load. tt, tt)
  over_refused IsOver runs by (ends.Over f) h = (λ files may load. overs_as (Ok c) files a f asks (by files may load f h), (c, asks, runs))
  over_refused IsOver runs by s h = absurd h

  pub loaded_answers : (IsReport : Loaded → Bool → List ℕ → ℕ → Type 0) (result : Result Report Status) → runs_tests c ≡ true →
      ((files : Files) (passed : Bool) (text : List ℕ) (units : ℕ) → OfLoaded (λ x. IsReport x passed text units) files a → ReportsBy (Ok c) files a passed text units) →
      ((files : Files) (f : OverFault) → IsOver files a f → OversBy (Ok c) files a f) → ((passed : Bool) (text : List ℕ) (units : ℕ) → IsReport l passed text units → MayReport (Ok c) passed) →
      IfOk result (λ r. AreCounted (IsReport l r.passed r.text) begun now) → IfErr result (OnlyOver (IsOverWhole l)) → AnswersOver l a old new begun now result
  loaded_answers IsReport result runs by over form is refused =
      ran_answers (IsReport l) (OnlyOver (IsOverWhole l)) result (λ files may load passed text units h. by files passed text units (record { loaded = l; load = load; is = h })) form
      (over_refused (IsOverWhole l) runs (λ files may load f h. over files f (record { loaded = l; load = load; is = h }))) is refused

  -- with a record
  module _ (b : Beginning) (begins : OfHeld new.told (λ files. begun_by files a l ≡ Some (Ok b))) (suite : IsOfSuite l b) where
    of_begun : (Is : Loaded → Beginning → Type 0) (files : Files) → MayHold new.told files → LoadsFor files a (Ok l) → Is l b → OfBegun Is files a
    of_begun Is files may load is = record { loaded = l; beginning = b; begins = record { load = load; begins = begins files may }; suite = suite; is = is }

    pub begun_answers : (IsReport : Loaded → Beginning → Bool → List ℕ → ℕ → Type 0) (IsOver : Loaded → Beginning → OverFault → Type 0) (result : Result Report Status) → runs_tests c ≡ true →
        ((files : Files) (passed : Bool) (text : List ℕ) (units : ℕ) → OfBegun (λ x y. IsReport x y passed text units) files a → ReportsBy (Ok c) files a passed text units) →
        ((files : Files) (f : OverFault) → OfBegun (λ x y. IsOver x y f) files a → OversBy (Ok c) files a f) → ((passed : Bool) (text : List ℕ) (units : ℕ) → IsReport l b passed text units → MayReport (Ok c) passed) →
        IfOk result (λ r. AreCounted (IsReport l b r.passed r.text) begun now) → IfErr result (OnlyOver (IsOver l b)) → AnswersOver l a old new begun now result
    begun_answers IsReport IsOver result runs by over form is refused =
        ran_answers (IsReport l b) (OnlyOver (IsOver l b)) result (λ files may load passed text units h. by files passed text units (of_begun (λ x y. IsReport x y passed text units) files may load h)) form
        (over_refused (IsOver l b) runs (λ files may load f h. over files f (of_begun (λ x y. IsOver x y f) files may load h))) is refused

-- ---- an order

order_may : (asking : Asking) (names : Names) (x : OrderFault) → asking ≡ Ok command.Order → MayRefuse asking (order_input names x) × IsProperInput (order_input names x)
order_may asking names (twice t) e = (e, tt)
order_may asking names (missing_writer t u) e = (e, tt)
order_may asking names (inverted a b) e = (e, tt)

module _ (a : Ask) (l : Loaded) (asks : a.command ≡ Ok command.Order) (old new : DepotView) (told : TellsOn old.told new.told) (faults : old.faults ≤ new.faults) (begun now : ℕ)
    (b : Beginning) (begins : OfHeld new.told (λ files. begun_by files a l ≡ Some (Ok b))) (suite : IsOfSuite l b) where
  order_refused : (s : Status) → OrderRefused l b s → OfHeld new.told (λ files. LoadsFor files a (Ok l) → Unreported files a s) × ReportEnds a s old new
  order_refused ends.NoMemory r = (λ files may load. tt, tt)
  order_refused (ends.Input f) r = (
    λ files may load. unlawful asks (record { load = load; begins = begins files may }) r,
    subst (λ (x : InputFault). MayRefuse a.command x × IsProperInput x) (sym r.named) (order_may a.command l.names r.found asks),
  )
  order_refused (ends.Over f) r =
      over_refused command.Order a l asks old new told faults begun now (IsOverOrder l b) refl
      (λ files may load f h. of_begun command.Order a l asks old new told faults begun now b begins suite (λ x y. IsOverOrder x y f) files may load h) (ends.Over f) r
  order_refused s r = absurd r

  pub order_answers : (result : Result Report Status) → IfOk result (λ r. AreCounted (IsOrderReport l b r.passed r.text) begun now) → IfErr result (OrderRefused l b) → AnswersOver l a old new begun now result
  order_answers result is refused =
      ran_answers command.Order a l asks old new told faults begun now (IsOrderReport l b) (OrderRefused l b) result
      (λ files may load passed text units h. of_begun command.Order a l asks old new told faults begun now b begins suite (λ x y. IsOrderReport x y passed text units) files may load h)
      (λ passed text units h. may_report (Ok command.Order) passed (command.Order, refl, refl)) order_refused is refused
