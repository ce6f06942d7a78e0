use Rattle.std.proofs.Common.{◌≡◌, ◌≤◌, ◌||◌, ◌&&◌, ℕ, length, take, get_or, false, nat_eq}
use Rattle.std.specs.List.{list_any}
use Rattle.access_tags.specs.Given.{is_given}
use Rattle.access_tags.proofs.reached.Reached.add_all.Given as goal

abbrev pub invariant-loop-class : goal.invariant-loop-class
invariant-loop-class l = record {
  count : length l.self.marks.items ≡ length l.fn.self.marks.items;
  has : (c : ℕ) → get_or l.self.marks.items c false ≡ (get_or l.fn.self.marks.items c false || (list_any (nat_eq c) (take l.class-index l.classes) && is_given (length l.fn.self.marks.items) c));
  first : (k : ℕ) → k ≤ length l.fn.self.classes.items → take k l.self.classes.items ≡ take k l.fn.self.classes.items;
  more : length l.fn.self.classes.items ≤ length l.self.classes.items;
}
