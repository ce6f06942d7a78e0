use Rattle.std.proofs.Common.{sym, ap, ◌∙◌, subst, rules}
use Rattle.jvm_model.specs.RowsCreate as create
use Rattle.jvm_model.specs.View.{IsSafe, Any, counted, touched}
use Rattle.vm_objects.proofs.Elements.{child_counted, child_touched, child_safe, one_safe, none_left, ends_in, tells_in}
use Rattle.vm_objects.proofs.nesting.+nest.Goals as goal

pub fill-nest-requires : goal.fill-nest-requires
fill-nest-requires g t c κs within =
    let safe : IsSafe Any (create.nest (g.M.Memory.program c.args.memory.now) c.args.kind c.args.length c.args.inner.now) (g.M.Memory.world c.loop-i.memory) = one_safe c.args.count c.loop-i.i c.args.object (create.nest (g.M.Memory.program c.args.memory.now) c.args.kind c.args.length c.args.inner.now) (g.M.Memory.world c.loop-i.memory) c.loop-i-test.true c.loop-i.invariant.safe in
    let ready : IsSafe Any (create.nest (g.M.Memory.program c.loop-i.memory) c.args.kind c.args.length c.args.inner.now) (g.M.Memory.world c.loop-i.memory) = rw c.loop-i.invariant.of safe in
    search rules

pub fill-put_elem-requires : goal.fill-put_elem-requires
fill-put_elem-requires g t c =
    (child_safe c.args.count c.loop-i.i c.args.object (create.nest (g.M.Memory.program c.args.memory.now) c.args.kind c.args.length c.args.inner.now) (g.M.Memory.world c.loop-i.memory) (g.M.Memory.world c.nest.new.memory) c.in_ok-child.child c.loop-i-test.true (ends_in (g.M.Memory.program c.args.memory.now) (g.M.Memory.program c.loop-i.memory) c.args.kind c.args.length c.args.inner.now (g.M.Memory.world c.loop-i.memory) (g.M.Memory.world c.nest.new.memory) c.in_ok-child.child c.loop-i.invariant.of c.in_ok-child.ensures.meets) c.loop-i.invariant.safe).0

pub fill-loop-i-preserved : goal.fill-loop-i-preserved
fill-loop-i-preserved g t c =
    let after = c.in_ok-put_elem.ensures in
    record {
      of = after.of ∙ c.in_ok-child.ensures.of ∙ c.loop-i.invariant.of;
      safe = rw after.set ((child_safe c.args.count c.loop-i.i c.args.object (create.nest (g.M.Memory.program c.args.memory.now) c.args.kind c.args.length c.args.inner.now) (g.M.Memory.world c.loop-i.memory) (g.M.Memory.world c.nest.new.memory) c.in_ok-child.child c.loop-i-test.true (ends_in (g.M.Memory.program c.args.memory.now) (g.M.Memory.program c.loop-i.memory) c.args.kind c.args.length c.args.inner.now (g.M.Memory.world c.loop-i.memory) (g.M.Memory.world c.nest.new.memory) c.in_ok-child.child c.loop-i.invariant.of c.in_ok-child.ensures.meets) c.loop-i.invariant.safe).1);
      rest = λ left. rw after.set (sym (child_counted c.args.count c.loop-i.i c.args.object (create.nest (g.M.Memory.program c.args.memory.now) c.args.kind c.args.length c.args.inner.now) (g.M.Memory.world c.loop-i.memory) (g.M.Memory.world c.nest.new.memory) c.in_ok-child.child c.loop-i-test.true (ends_in (g.M.Memory.program c.args.memory.now) (g.M.Memory.program c.loop-i.memory) c.args.kind c.args.length c.args.inner.now (g.M.Memory.world c.loop-i.memory) (g.M.Memory.world c.nest.new.memory) c.in_ok-child.child c.loop-i.invariant.of c.in_ok-child.ensures.meets) left) ∙ c.loop-i.invariant.rest left);
      told = λ h ts f.
          let before = c.loop-i.invariant.told h ts f in
          (_, after.told h _ ((tells_in g.M.Memory.follows c.loop-i.memory c.nest.new.memory (g.M.Memory.program c.args.memory.now) (g.M.Memory.program c.loop-i.memory) c.args.kind c.args.length c.args.inner.now (g.M.Memory.world c.loop-i.memory) c.loop-i.invariant.of c.in_ok-child.ensures.told) h before.0 before.1), rw after.set (sym (child_touched c.args.count c.loop-i.i c.args.object (create.nest (g.M.Memory.program c.args.memory.now) c.args.kind c.args.length c.args.inner.now) (g.M.Memory.world c.loop-i.memory) (g.M.Memory.world c.nest.new.memory) c.in_ok-child.child c.loop-i-test.true (ends_in (g.M.Memory.program c.args.memory.now) (g.M.Memory.program c.loop-i.memory) c.args.kind c.args.length c.args.inner.now (g.M.Memory.world c.loop-i.memory) (g.M.Memory.world c.nest.new.memory) c.in_ok-child.child c.loop-i.invariant.of c.in_ok-child.ensures.meets) before.0) ∙ before.2));
    }

pub fill-returns-clause-meets : goal.fill-returns-clause-meets
fill-returns-clause-meets g t c = λ left.
    sym (c.loop-i.invariant.rest left) ∙ ap (λ x. counted x (g.M.Memory.world c.loop-i.memory) left) (none_left c.args.count c.loop-i.i c.args.object (create.nest (g.M.Memory.program c.args.memory.now) c.args.kind c.args.length c.args.inner.now) c.loop-i-test.false)

pub fill-returns-clause-told : goal.fill-returns-clause-told
fill-returns-clause-told g t c = λ h ts f.
    let before = c.loop-i.invariant.told h ts f in
    subst (g.M.Memory.follows c.loop-i.memory h) (ap (λ x. touched x (g.M.Memory.world c.loop-i.memory) before.0) (sym (none_left c.args.count c.loop-i.i c.args.object (create.nest (g.M.Memory.program c.args.memory.now) c.args.kind c.args.length c.args.inner.now) c.loop-i-test.false)) ∙ before.2) before.1
