-- What the words of a generated suite are answered, whatever a depot tells: no file of it is read (this project's).
use Rattle.std.specs.Prelude.{◌≡◌, ℕ, List, true, Result, IfOk, IfErr}
use Rattle.outside.specs.{Depot.DepotView, Sink.SinkView}
use Rattle.electrictest.specs.{declared.reports.Report.Report, declared.status.Status.Status, Commands.Whole, Generated.Sums, Words.Ask, Words.OfGenerated}
use Rattle.electrictest.specs.declared.status.Status.TheVariants as ends

-- a summary of the generated suite was written, and its units are counted
pub record WroteSummary (k workers : ℕ) (begun now : ℕ) (old new : SinkView) : Type 0 where
  pub text : List ℕ
  pub sums : Sums k workers true text begun now
  pub whole : Whole text old new

-- By each status: the summary was written, memory was refused and nothing was written, or the sink failed.
abbrev pub GeneratedEnds : ℕ → ℕ → ℕ → ℕ → Status → SinkView → SinkView → Type 0
GeneratedEnds k workers begun now ends.Done old new = WroteSummary k workers begun now old new
GeneratedEnds k workers begun now ends.NoMemory old new = new ≡ old
GeneratedEnds k workers begun now ends.Sink old new = Unit {0}
GeneratedEnds k workers begun now _ old new = ⊥

-- For each number of tests and of workers: the depot is as it was.
abbrev pub GeneratedAnswer : Ask → Status → DepotView → DepotView → ℕ → ℕ → SinkView → SinkView → Type 0
GeneratedAnswer a s depot depot_now begun now old new = OfGenerated a.command (λ k workers. (depot_now ≡ depot) × GeneratedEnds k workers begun now s old new)

-- ---- of the code's functions

-- the summary, or want of memory; and the depot is as it was
pub record Summed (k workers : ℕ) (result : Result Report Status) (depot depot_now : DepotView) (begun now : ℕ) : Type 0 where
  pub sums : IfOk result (λ r. Sums k workers r.passed r.text begun now)
  pub unsummed : IfErr result (λ s. s ≡ ends.NoMemory)
  pub untouched : depot_now ≡ depot
