use Rattle.std.proofs.Common.{◌≡◌, ◌-◌, ◌++◌, length, take, replicate}
use Rattle.jvm_model.specs.declared.values.Value.TheVariants.{Null}
use Rattle.vm_frames.proofs.locals.clear.Given as goal

abbrev pub invariant-loop-place : goal.invariant-loop-place
invariant-loop-place l = record {
  filled : take l.place l.slots ≡ take l.from l.initial.slots ++ replicate (l.place - l.from) Null;
  kept : length l.slots ≡ length l.initial.slots;
}
