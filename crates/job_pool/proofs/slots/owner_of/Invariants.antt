use Rattle.std.proofs.Common.{◌≡◌, length, take}
use Rattle.job_pool.specs.Filled.{chains_of}
use Rattle.job_pool.proofs.slots.owner_of.Given as goal

abbrev pub invariant-loop-number : goal.invariant-loop-number
invariant-loop-number l = record {
  pushed : l.owner.seen.pushed ≡ chains_of (take l.number-index l.numbers);
  count : length l.owner.seen.pushed ≡ l.number-index;
  made : l.owner.seen.made ≡ 0;
  cap : l.owner.cap ≡ length l.numbers;
}
