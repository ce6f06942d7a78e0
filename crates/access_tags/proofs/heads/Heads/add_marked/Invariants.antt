use Rattle.std.proofs.Common.{◌≡◌, ◌||◌, ◌&&◌, ℕ, length, get_or, false, nat_lt}
use Rattle.access_tags.specs.{Given.is_given, HeadMarks.is_marked}
use Rattle.access_tags.proofs.heads.Heads.add_marked.Given as goal

abbrev pub invariant-loop-class : goal.invariant-loop-class
invariant-loop-class l = record {
  count : length l.reached.marks.items ≡ length l.fn.reached.marks.items;
  has : (c : ℕ) → get_or l.reached.marks.items c false
      ≡ (get_or l.fn.reached.marks.items c false || ((nat_lt c l.class && is_marked l.self.classes l.self.marks l.test c) && is_given (length l.fn.reached.marks.items) c));
}
