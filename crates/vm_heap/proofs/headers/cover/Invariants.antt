use Rattle.std.proofs.Common.{◌≡◌, ℕ, ◌<◌, ◌≤◌, ◌-◌, ◌+◌, ◌++◌, length, replicate, None}
use Rattle.vm_heap.proofs.headers.cover.Given as goal

abbrev pub invariant-loop-alloc : goal.invariant-loop-alloc
invariant-loop-alloc l = record {
  covered : l.texts.items ≡ l.fn.texts.items ++ replicate (length l.texts.items - length l.fn.texts.items) None;
  more : length l.fn.texts.items ≤ length l.texts.items;
  within : (n : ℕ) → length l.fn.texts.items ≤ n → l.place < n → length l.texts.items ≤ n;
}

abbrev pub decreases-loop-alloc : goal.decreases-loop-alloc
decreases-loop-alloc l = (l.place + 1) - length l.texts.items
