use Rattle.std.proofs.Common.{◌≡◌, ◌-◌, ◌^◌, ℕ, length, take, get_or, true, false}
use Rattle.access_tags.proofs.Closing.{AreWithin, IsClosed}
use Rattle.access_tags.proofs.reached.Reached.close.Given as goal

abbrev pub invariant-loop-next : goal.invariant-loop-next
invariant-loop-next l = record {
  count : length l.self.marks.items ≡ length l.fn.self.marks.items;
  kept : (c : ℕ) → get_or l.fn.self.marks.items c false ≡ true → get_or l.self.marks.items c false ≡ true;
  closed : length l.fn.self.marks.items ≡ length l.p.classes → IsClosed l.p (take l.next l.self.classes.items) (λ c. get_or l.self.marks.items c false);
  within : length l.fn.self.marks.items ≡ length l.p.classes → AreWithin l.p (λ c. get_or l.fn.self.marks.items c false) (λ c. get_or l.self.marks.items c false);
}

abbrev pub decreases-loop-next : goal.decreases-loop-next
decreases-loop-next l = 2 ^ 64 - l.next
