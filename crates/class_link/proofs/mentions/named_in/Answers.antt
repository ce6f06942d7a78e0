use Rattle.std.proofs.Common.{◌∙◌, ap, subst, take, length, ◌++◌}
use Rattle.std.specs.List.{flat_map}
use Rattle.class_link.specs.{Assembly.mentioned_by, Marks.Lists}
use Rattle.class_link.proofs.Blocks.{flat_at}
use Rattle.class_link.proofs.mentions.named_in.Goals as goal

pub loop-slot-preserved : goal.loop-slot-preserved
loop-slot-preserved c =
    let f = mentioned_by c.args.names.now c.args.slots.now in
    let i = c.loop-slot.slot-index in
    let slots = c.args.slots.now in
    let slot = c.slot-item.result in
    let count = length c.args.names.now in
    subst (λ is. Lists c.list.new.table.items count is)
    (ap (λ is. flat_map f (take i slots) ++ is) c.mentioned_by.ensures
    ∙ flat_at f slots i slot c.loop-slot-test.true c.slot-item.is)
    (c.list.ensures count _ c.loop-slot.invariant)
