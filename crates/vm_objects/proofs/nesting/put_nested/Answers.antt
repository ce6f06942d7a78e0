use Rattle.std.proofs.Common.{◌≡◌, ◌∷◌, sym, subst, rules}
use Rattle.jvm_model.proofs.Binds.{counted_bind}
use Rattle.vm_objects.proofs.Elements.{nested_touches}
use Rattle.vm_objects.proofs.nesting.put_nested.Goals as goal

pub returns : goal.returns
returns g c =
    let split : c.args.lengths.now ≡ c.in-Some.length.now ∷ c.in-Some.inner.now = search rules in
    let made = c.in_ok-object in
    record {
      made = (
        made.ensures.of,
        (
          search (rules, counted_bind),
          λ n h ts f.
              subst (g.M.Memory.follows c.nest.new.memory h)
              (sym (nested_touches (g.M.Memory.program c.args.memory.now) c.args.kind c.args.stack.now c.args.stack.now.top.stack c.args.lengths.now c.in-Some.length.now c.in-Some.inner.now
              (g.M.Memory.world c.args.memory.now) (g.M.Memory.world c.nest.new.memory) made.object split made.ensures.meets ts))
              (made.ensures.told h ts f),
        ),
      );
    }
