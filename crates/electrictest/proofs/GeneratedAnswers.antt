-- What the words of a generated suite are answered.
use Rattle.std.proofs.Common.{◌≡◌, ◌∙◌, ℕ, List, Bool, true, false, sym, ap, subst, inl, inr, Result, Ok, Err, IfOk, IfErr}
use Rattle.std.proofs.lemmas.Bool.{false≢true}
use Rattle.outside.specs.{Depot.DepotView, Sink.SinkView}
use Rattle.electrictest.specs.{declared.reports.Report.Report, declared.status.Status.Status, Commands.Refused, Commands.Writes, Commands.report_status}
use Rattle.electrictest.specs.declared.status.Status.TheVariants as ends
use Rattle.electrictest.specs.{Generated.Sums, Words.Ask, Words.OfGenerated}
use Rattle.electrictest.specs.GeneratedAnswers.{GeneratedAnswer, GeneratedEnds, Summed}

module _ (k workers begun now : ℕ) (result : Status) (old new : SinkView) where
  ends_as : (s : Status) → result ≡ s → GeneratedEnds k workers begun now s old new → GeneratedEnds k workers begun now result old new
  ends_as s e h = subst (λ (z : Status). GeneratedEnds k workers begun now z old new) (sym e) h

  summary_written : (passed : Bool) (text : List ℕ) → Sums k workers passed text begun now → Writes text (report_status passed) result old new → GeneratedEnds k workers begun now result old new
  summary_written true text sums (inl h) = ends_as ends.Done h.0 (record { text = text; sums = sums; whole = h.1 })
  summary_written false text sums (inl h) = absurd (false≢true sums.report.passes)
  summary_written passed text sums (inr h) = ends_as ends.Sink h.0 tt

  refusal_written : (s : Status) → s ≡ ends.NoMemory → Refused s result old new → GeneratedEnds k workers begun now result old new
  refusal_written s u (inr h) = ends_as ends.NoMemory h.0 h.1
  refusal_written s u (inl h) = absurd (h.0 u)

  written_by : (report : Result Report Status) (depot depot_now : DepotView) → Summed k workers report depot depot_now begun now → IfOk report (λ r. Writes r.text (report_status r.passed) result old new) →
      IfErr report (λ s. Refused s result old new) → GeneratedEnds k workers begun now result old new
  written_by (Ok r) depot depot_now h w n = summary_written r.passed r.text h.sums w
  written_by (Err s) depot depot_now h w n = refusal_written s h.unsummed n

-- a report or a refusal was written
pub generated_by : (a b : Ask) (depot depot_now : DepotView) (result : Status) (sink sink_now : SinkView) → a ≡ b → (begun now : ℕ) (report : Result Report Status) →
    OfGenerated a.command (λ k workers. Summed k workers report depot depot_now begun now) → IfOk report (λ r. Writes r.text (report_status r.passed) result sink sink_now) → IfErr report (λ s. Refused s result sink sink_now) →
    GeneratedAnswer b result depot depot_now begun now sink sink_now
generated_by a b depot depot_now result sink sink_now same begun now report h w n = λ k workers e.
    let summed = h k workers (ap (λ (z : Ask). z.command) same ∙ e) in
    (summed.untouched, written_by k workers begun now result sink sink_now report depot depot_now summed w n)
