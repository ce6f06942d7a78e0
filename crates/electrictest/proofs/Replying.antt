-- What is on the sink, from what was written.
use Rattle.std.proofs.Common.{◌≡◌, ◌≢◌, ℕ, List, Bool, true, false, refl, sym, subst, inl, inr, Result, Ok, Err, IfOk, IfErr}
use Rattle.outside.specs.{Depot.Files, Depot.Told, Depot.DepotView, Depot.OfHeld, Sink.SinkView}
use Rattle.electrictest.specs.{declared.reports.Report.Report, declared.status.Status.Status, Words.Ask, Causes.MayReport}
use Rattle.electrictest.specs.declared.status.Status.TheVariants as ends
use Rattle.electrictest.specs.Replies.{fault_line, Unreported, IsAnswer}
use Rattle.electrictest.specs.Commands.{AnswersAny, ReportEnds, Reported, Whole, Writes, Refused, Taken, Counted, DepotFailed, Asked, called, Answering, Replied, Served, Ends, report_status}

-- a text that answers what is asked was written as a whole, or the sink took a part of it
written_at : (asked : Asked) (s result : Status) (sink sink_now : SinkView) (reply : Answering asked s) → (Replied asked s sink sink_now → Served asked s sink sink_now) →
    Writes reply.text s result sink sink_now → Served asked result sink sink_now
written_at asked s result sink sink_now reply served (inl h) = subst (λ z. Served asked z sink sink_now) (sym h.0) (served (record { reply = reply; whole = h.1 }))
written_at asked s result sink sink_now reply served (inr h) = subst (λ z. Served asked z sink sink_now) (sym h.0) (record { status = s; reply = reply; cut = h.1 })

-- ---- a report

done_at : (asked : Asked) (passed : Bool) (text : List ℕ) (result : Status) (sink sink_now : SinkView) → Reported asked.files asked.ask passed text asked.begun asked.now →
    Writes text (report_status passed) result sink sink_now → Served asked result sink sink_now
done_at asked true text result sink sink_now r w = written_at asked ends.Done result sink sink_now (record { text = text; units = r.units; answers = r.report; counted = r.counts; failed = tt }) (λ h. h) w
done_at asked false text result sink sink_now r w = written_at asked ends.NotPassed result sink sink_now (record { text = text; units = r.units; answers = r.report; counted = r.counts; failed = tt }) (λ h. h) w

-- a report was written
served_done : (told : Told) (a b : Ask) (depot depot_now : DepotView) (begun now : ℕ) (passed : Bool) (text : List ℕ) (result : Status) (sink sink_now : SinkView) → a ≡ b →
    OfHeld told (λ files. Reported files a passed text begun now) → Writes text (report_status passed) result sink sink_now →
    OfHeld told (λ files. Served (called b depot depot_now begun now files) result sink sink_now)
served_done told a b depot depot_now begun now passed text result sink sink_now e r w = λ files may.
    done_at (called b depot depot_now begun now files) passed text result sink sink_now (subst (λ z. Reported files z passed text begun now) e (r files may)) w

taken_done : (passed : Bool) (text : List ℕ) (result : Status) (sink sink_now : SinkView) → Writes text (report_status passed) result sink sink_now → Taken result sink sink_now
taken_done true text result sink sink_now (inl h) = subst (λ z. Taken z sink sink_now) (sym h.0) (text, h.1)
taken_done false text result sink sink_now (inl h) = subst (λ z. Taken z sink sink_now) (sym h.0) (text, h.1)
taken_done passed text result sink sink_now (inr h) = subst (λ z. Taken z sink sink_now) (sym h.0) (text, h.1)

ends_done : (a b : Ask) (passed : Bool) (text : List ℕ) (result : Status) (depot depot_now : DepotView) (sink sink_now : SinkView) → a ≡ b → MayReport a.command passed →
    Writes text (report_status passed) result sink sink_now → Ends b result depot depot_now sink sink_now
ends_done a b true text result depot depot_now sink sink_now e f (inl h) = subst (λ z. Ends b z depot depot_now sink sink_now) (sym h.0) (subst (λ (z : Ask). MayReport z.command true) e f)
ends_done a b false text result depot depot_now sink sink_now e f (inl h) = subst (λ z. Ends b z depot depot_now sink sink_now) (sym h.0) (subst (λ (z : Ask). MayReport z.command false) e f)
ends_done a b passed text result depot depot_now sink sink_now e f (inr h) = subst (λ z. Ends b z depot depot_now sink sink_now) (sym h.0) h.1.rose

-- ---- a refusal

line_answers : (files : Files) (a : Ask) (s : Status) → s ≢ ends.NoMemory → Unreported files a s → IsAnswer files a s (fault_line s) 0
line_answers files a ends.NoMemory n r = absurd (n refl)
line_answers files a ends.Done n r = absurd r
line_answers files a ends.NotPassed n r = absurd r
line_answers files a ends.Sink n r = absurd r
line_answers files a s n r = (r, refl)

line_counted : (a : Ask) (s : Status) (depot depot_now : DepotView) (begun now : ℕ) → ReportEnds a s depot depot_now → Counted s 0 begun now
line_counted a ends.Done depot depot_now begun now r = absurd r
line_counted a ends.NotPassed depot depot_now begun now r = absurd r
line_counted a s depot depot_now begun now r = tt

line_failed : (a : Ask) (s : Status) (depot depot_now : DepotView) → ReportEnds a s depot depot_now → DepotFailed s depot depot_now
line_failed a (ends.Depot name) depot depot_now r = r.1
line_failed a s depot depot_now r = tt

line_served : (asked : Asked) (s : Status) (sink sink_now : SinkView) → s ≢ ends.NoMemory → ReportEnds asked.ask s asked.depot asked.depot_now → Replied asked s sink sink_now → Served asked s sink sink_now
line_served asked ends.NoMemory sink sink_now n r h = absurd (n refl)
line_served asked ends.Sink sink sink_now n r h = absurd r
line_served asked s sink sink_now n r h = h

line_taken : (a : Ask) (s : Status) (depot depot_now : DepotView) (sink sink_now : SinkView) → s ≢ ends.NoMemory → ReportEnds a s depot depot_now → Whole (fault_line s) sink sink_now → Taken s sink sink_now
line_taken a ends.NoMemory depot depot_now sink sink_now n r h = absurd (n refl)
line_taken a ends.Done depot depot_now sink sink_now n r h = absurd r
line_taken a ends.NotPassed depot depot_now sink sink_now n r h = absurd r
line_taken a ends.Sink depot depot_now sink sink_now n r h = absurd r
line_taken a s depot depot_now sink sink_now n r h = h

refused_at : (asked : Asked) (s result : Status) (sink sink_now : SinkView) → Unreported asked.files asked.ask s → ReportEnds asked.ask s asked.depot asked.depot_now → Refused s result sink sink_now → Served asked result sink sink_now
refused_at asked s result sink sink_now r e (inr h) = subst (λ z. Served asked z sink sink_now) (sym h.0) h.1
refused_at asked s result sink sink_now r e (inl (n, w)) =
    written_at asked s result sink sink_now
    (record {
      text = fault_line s;
      units = 0;
      answers = line_answers asked.files asked.ask s n r;
      counted = line_counted asked.ask s asked.depot asked.depot_now asked.begun asked.now e;
      failed = line_failed asked.ask s asked.depot asked.depot_now e;
    })
    (line_served asked s sink sink_now n e) w

-- a refusal was written
served_refused : (told : Told) (a b : Ask) (depot depot_now : DepotView) (begun now : ℕ) (s result : Status) (sink sink_now : SinkView) → a ≡ b → OfHeld told (λ files. Unreported files a s) → ReportEnds a s depot depot_now → Refused s result sink sink_now →
    OfHeld told (λ files. Served (called b depot depot_now begun now files) result sink sink_now)
served_refused told a b depot depot_now begun now s result sink sink_now e r n h = λ files may.
    refused_at (called b depot depot_now begun now files) s result sink sink_now (subst (λ z. Unreported files z s) e (r files may)) (subst (λ z. ReportEnds z s depot depot_now) e n) h

taken_refused : (a : Ask) (depot depot_now : DepotView) (s result : Status) (sink sink_now : SinkView) → ReportEnds a s depot depot_now → Refused s result sink sink_now → Taken result sink sink_now
taken_refused a depot depot_now s result sink sink_now e (inr h) = subst (λ z. Taken z sink sink_now) (sym h.0) h.1
taken_refused a depot depot_now s result sink sink_now e (inl (n, inl h)) = subst (λ z. Taken z sink sink_now) (sym h.0) (line_taken a s depot depot_now sink sink_now n e h.1)
taken_refused a depot depot_now s result sink sink_now e (inl (n, inr h)) = subst (λ z. Taken z sink sink_now) (sym h.0) (fault_line s, h.1)

line_ends : (a : Ask) (s : Status) (depot depot_now : DepotView) (sink sink_now : SinkView) → ReportEnds a s depot depot_now → Ends a s depot depot_now sink sink_now
line_ends a ends.Done depot depot_now sink sink_now e = absurd e
line_ends a ends.NotPassed depot depot_now sink sink_now e = absurd e
line_ends a ends.Sink depot depot_now sink sink_now e = absurd e
line_ends a s depot depot_now sink sink_now e = e

ends_refused : (a b : Ask) (s result : Status) (depot depot_now : DepotView) (sink sink_now : SinkView) → a ≡ b → ReportEnds a s depot depot_now → Refused s result sink sink_now → Ends b result depot depot_now sink sink_now
ends_refused a b s result depot depot_now sink sink_now q e (inr h) = subst (λ z. Ends b z depot depot_now sink sink_now) (sym h.0) tt
ends_refused a b s result depot depot_now sink sink_now q e (inl (n, inl h)) = subst (λ z. Ends b z depot depot_now sink sink_now) (sym h.0) (line_ends b s depot depot_now sink sink_now (subst (λ z. ReportEnds z s depot depot_now) q e))
ends_refused a b s result depot depot_now sink sink_now q e (inl (n, inr h)) = subst (λ z. Ends b z depot depot_now sink sink_now) (sym h.0) h.1.rose

-- ---- a report or a refusal

module _ (a b : Ask) (depot depot_now : DepotView) (result : Status) (sink sink_now : SinkView) (same : a ≡ b) (begun now : ℕ) where
  pub served_by : (report : Result Report Status) → AnswersAny a depot depot_now begun now report → IfOk report (λ r. Writes r.text (report_status r.passed) result sink sink_now) → IfErr report (λ s. Refused s result sink sink_now) →
      OfHeld depot_now.told (λ files. Served (called b depot depot_now begun now files) result sink sink_now)
  served_by (Ok r) h w n = served_done depot_now.told a b depot depot_now begun now r.passed r.text result sink sink_now same (λ files may. h.reports files may tt) w
  served_by (Err s) h w n = served_refused depot_now.told a b depot depot_now begun now s result sink sink_now same (λ files may. h.refused files may tt) h.ends n

  pub taken_by : (report : Result Report Status) → AnswersAny a depot depot_now begun now report → IfOk report (λ r. Writes r.text (report_status r.passed) result sink sink_now) → IfErr report (λ s. Refused s result sink sink_now) → Taken result sink sink_now
  taken_by (Ok r) h w n = taken_done r.passed r.text result sink sink_now w
  taken_by (Err s) h w n = taken_refused a depot depot_now s result sink sink_now h.ends n

  pub ends_by : (report : Result Report Status) → AnswersAny a depot depot_now begun now report → IfOk report (λ r. Writes r.text (report_status r.passed) result sink sink_now) → IfErr report (λ s. Refused s result sink sink_now) →
      Ends b result depot depot_now sink sink_now
  ends_by (Ok r) h w n = ends_done a b r.passed r.text result depot depot_now sink sink_now same h.form w
  ends_by (Err s) h w n = ends_refused a b s result depot depot_now sink sink_now same h.ends n
