use Rattle.std.proofs.Common.{◌≡◌, ℕ, ◌-◌, ◌+◌, ◌*◌, List, length}
use Rattle.jvm_model.specs.{declared.values.Touch.Touch, View.IsSafe, View.Any, View.counted, View.touched}
use Rattle.jvm_model.specs.RowsCreate as create
use Rattle.vm_mem.specs.Trace.{Trace}
use Rattle.vm_objects.proofs.nesting.+nest.Given as goal

abbrev pub decreases-nest : goal.decreases-nest
decreases-nest g l = 2 * length l.inner.now

abbrev pub decreases-fill : goal.decreases-fill
decreases-fill g l = 2 * length l.inner.now + 1

-- the elements that are left come to the same as all of them at first
abbrev pub invariant-fill-loop-i : goal.invariant-fill-loop-i
invariant-fill-loop-i g l =
    let program = g.M.Memory.program in
    let world = g.M.Memory.world in
    let follows = g.M.Memory.follows in
    let one = create.nest (program l.fn.memory) l.kind l.length l.inner in
    record {
      of : program l.memory ≡ program l.fn.memory;
      safe : IsSafe Any (create.children (l.count - l.i) l.i l.object one) (world l.memory);
      rest : (left : ℕ) → counted (create.children (l.count - l.i) l.i l.object one) (world l.memory) left ≡ counted (create.children l.count 0 l.object one) (world l.fn.memory) left;
      told : (h : Trace) (ts : List Touch) → follows l.fn.memory h ts → (us : List Touch) × follows l.memory h us × (touched (create.children (l.count - l.i) l.i l.object one) (world l.memory) us ≡ touched (create.children l.count 0 l.object one) (world l.fn.memory) ts);
    }
