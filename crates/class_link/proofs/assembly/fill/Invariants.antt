use Rattle.std.proofs.Common.{◌≡◌, ◌+◌, length}
use Rattle.class_link.specs.Filling.{filled}
use Rattle.class_link.proofs.assembly.fill.Given as goal

abbrev pub invariant-loop-body : goal.invariant-loop-body
invariant-loop-body l = record {
  next : (goal.iterator-loop-body).can_next l.body-iterator;
  finite : (goal.iterator-loop-body).is_finite l.body-iterator;
  methods : l.methods.items ≡ filled 102 l.yielded l.fn.methods.items;
  place : l.place ≡ 102 + length l.yielded;
}
