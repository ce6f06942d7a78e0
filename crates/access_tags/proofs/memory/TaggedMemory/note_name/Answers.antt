use Rattle.std.proofs.Common.{None}
use Rattle.vm_mem.specs.Stores.{place_in}
use Rattle.access_tags.proofs.{Ending.name_notes, Following.noted}
use Rattle.access_tags.proofs.memory.TaggedMemory.note_name.Goals as goal

pub returns-clause-told : goal.returns-clause-told
returns-clause-told g c h ts f =
    let m = c.name_number.new.self in
    noted m c.note.new.self m.discovery_tree m.heads (record { write = c.args.write; location = place_in c.args.part c.args.name.now; gave = None }) h ts
    (name_notes m c.note.new.self c.args.part c.args.name.now c.in_ok-number.number c.args.write c.in_ok-number.ensures.number
    (record { cells = c.in_ok-note.ensures.cells; named = c.in_ok-note.ensures.named }) c.in_ok-note.ensures.stands) (c.in_ok-number.ensures.told h ts f)
