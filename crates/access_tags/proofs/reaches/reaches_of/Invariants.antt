use Rattle.std.proofs.Common.{◌≡◌, ◌+◌, ◌<◌, ℕ, List, false, length, get_or}
use Rattle.jvm_model.specs.declared.values.{Kind.Kind, Touch.Touch}
use Rattle.order_law.specs.Histories.{Touches}
use Rattle.access_tags.specs.{HeadMarks.touches_so_far, HeadsStand.HeadsStand, Settled.AreReaches, Settled.reads_out_alone}
use Rattle.access_tags.proofs.reaches.reaches_of.Given as goal

abbrev pub invariant-loop-i : goal.invariant-loop-i
invariant-loop-i l = record {
  each : length l.reaches ≡ l.i;
  reach : (kinds : ℕ → ℕ → Kind) (T S : Touches) (t : ℕ) (ts : List Touch) → l.heads.classes ≡ length l.p.classes → HeadsStand kinds T t ts l.heads → ((i : ℕ) → i < length l.p.tests → touches_so_far T t ts (i + 1) ≡ S (i + 1)) →
      ((i : ℕ) → i < length l.p.tests → get_or l.alone i false ≡ reads_out_alone S (i + 1)) → AreReaches l.p S kinds l.reaches;
}
