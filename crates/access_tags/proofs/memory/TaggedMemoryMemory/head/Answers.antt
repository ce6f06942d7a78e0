use Rattle.std.proofs.Common.{Some, refl, ap}
use Rattle.jvm_model.specs.declared.values.Head.{Head}
use Rattle.jvm_model.specs.Access.{read_of}
use Rattle.jvm_model.specs.declared.values.Location.TheVariants as place
use Rattle.access_tags.specs.declared.conflict.LocationKey.TheVariants as spot
use Rattle.access_tags.proofs.Following.{read_noted}
use Rattle.access_tags.proofs.memory.TaggedMemoryMemory.head.Goals as goal

pub returns-then-has_noted_head-clause-told : goal.returns-then-has_noted_head-clause-told
returns-then-has_noted_head-clause-told g c =
    read_noted c.args.self.now (record c.args.self.now { memory = c.head.new.self }) c.head.new.self (spot.Head c.args.object) _ _ (read_of (place.Head c.args.object) c.in_ok-head.head) refl c.requires c.in_ok-head.ensures.of c.in_ok-head.ensures.kept refl refl refl (ap (λ (h : Head). Some h.kind) c.in_ok-head.ensures.gives) (c.has_noted_head.ensures c.if-has_noted_head.true c.in_ok-head.head.kind)

pub returns-clause-told : goal.returns-clause-told
returns-clause-told g c =
    read_noted c.args.self.now c.note_head.new.self c.head.new.self (spot.Head c.args.object) _ _ (read_of (place.Head c.args.object) c.in_ok-head.head) refl c.requires c.in_ok-head.ensures.of c.in_ok-head.ensures.kept refl refl refl (ap (λ (h : Head). Some h.kind) c.in_ok-head.ensures.gives) c.in_ok-note_head.ensures.told
