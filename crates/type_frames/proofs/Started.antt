-- The start state of a test is typed: no entry stands yet.
use Rattle.std.proofs.Common.{arith, refl}
use Rattle.std.specs.List.{IsDistinct}
use Rattle.std.proofs.lemmas.List.Elements.{All-nil}
use Rattle.type_frames.specs.TypedState.{StartedLaw}

pub started_law : StartedLaw
unfolding IsDistinct
started_law p w n typed low high = record {
  test = (low, high);
  world = typed;
  references = All-nil _;
  few = omega arith;
  alone = λ q. refl;
  top = tt;
  below = tt;
  one_each = tt;
  raised = tt;
  stage = tt;
}
