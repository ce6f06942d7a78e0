-- Outcomes of two programs that are the same but for the number of a throwable's class.
use Rattle.std.specs.Prelude.{◌≡◌, ℕ, List, true}
use Rattle.jvm_model.specs.declared.outcome.{Cause.Cause, Verdict.Verdict, Verdict.TheVariants.Passed, Verdict.TheVariants.Failed, Verdict.TheVariants.Error}
use Rattle.jvm_model.specs.{declared.outcome.Outcome.Outcome, Suite.End, Suite.finished, Suite.stuck, Suite.out_of_steps}
use Rattle.order_law.specs.Numbers.{Numbers}

pub record PairedCause (n : Numbers) (x y : Cause) : Type 0 where
  pub class : n.class x.class y.class ≡ true
  pub message : x.message ≡ y.message

pub data PairedVerdict (n : Numbers) : Verdict → Verdict → Type 0 where
  both_passed : PairedVerdict n Passed Passed
  both_failed : {x y : Cause} → PairedCause n x y → PairedVerdict n (Failed x) (Failed y)
  both_error : {x y : Cause} → PairedCause n x y → PairedVerdict n (Error x) (Error y)

pub record PairedOutcome (n : Numbers) (o r : Outcome) : Type 0 where
  pub verdict : PairedVerdict n o.verdict r.verdict
  pub output : o.output ≡ r.output
  pub units : o.units ≡ r.units

pub data PairedEnd (n : Numbers) : End → End → Type 0 where
  both_stuck : PairedEnd n stuck stuck
  both_out : PairedEnd n out_of_steps out_of_steps
  both_finished : {v w : Verdict} {o r : List ℕ} → PairedVerdict n v w → o ≡ r → PairedEnd n (finished v o) (finished w r)
