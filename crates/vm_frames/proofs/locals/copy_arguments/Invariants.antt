use Rattle.std.proofs.Common.{◌≡◌, ◌+◌, ◌-◌, ◌*◌, ◌≤◌, ◌++◌, length, take, drop}
use Rattle.jvm_model.specs.Entries.{slots_of}
use Rattle.vm_frames.proofs.locals.copy_arguments.Given as goal

abbrev pub invariant-loop-place : goal.invariant-loop-place
invariant-loop-place l = record {
  written : take l.to l.slots ≡ take l.base l.initial.slots ++ slots_of (drop l.from (take l.place l.initial.slots));
  start : l.base ≤ l.to;
  most : l.to ≤ l.base + 2 * (l.place - l.from);
  kept : length l.slots ≡ length l.initial.slots;
}
