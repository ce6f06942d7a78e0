use Rattle.std.proofs.Common.{◌≡◌, ℕ, ◌<◌, [], length, get_or}
use Rattle.jvm_model.specs.{declared.values.Kind.TheVariants.Class, Classes.fields_of}
use Rattle.vm_mem.proofs.layouts.Layouts.of.Given as goal

abbrev pub invariant-loop-class : goal.invariant-loop-class
invariant-loop-class l = record {
  count : length l.fields ≡ l.class;
  laid : (c : ℕ) → c < l.class → get_or l.fields c [] ≡ fields_of l.p (Class c);
}
