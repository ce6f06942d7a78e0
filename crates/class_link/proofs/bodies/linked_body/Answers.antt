use Rattle.class_link.proofs.BodyLaws.{made_of}
use Rattle.class_link.proofs.bodies.linked_body.Goals as goal

pub returns : goal.returns
returns c = made_of c.args.setting.now c.args.slots.now c.args.targets.now c.args.code.now c.as_slice.result.now c.as_slice-2.result.now c.requires c.as_slice.ensures c.as_slice-2.ensures
    c.in_ok-placed.placed c.in_ok-handlers.handlers c.in_ok-frames.frames c.is_cut.result c.in_ok-placed.ensures c.in_ok-handlers.ensures c.in_ok-frames.ensures c.is_cut.ensures
