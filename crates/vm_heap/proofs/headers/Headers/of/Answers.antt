use Rattle.std.proofs.Common.{◌<◌, length, rules}
use Rattle.vm_heap.specs.Entries.{no_entry}
use Rattle.vm_heap.proofs.Entries.{header_there, objects_there}
use Rattle.vm_heap.proofs.headers.Headers.of.Goals as goal

pub index-requires : goal.index-requires
index-requires c =
    let w : c.args.object < length c.self.inside.headers.items = objects_there c.self.inside.headers.items c.self.inside.texts.items c.args.self.now c.args.object c.self.view_is c.requires in
    search rules

pub returns : goal.returns
returns c =
    let xs = c.self.inside.headers.items in
    let ts = c.self.inside.texts.items in
    let w = objects_there xs ts c.args.self.now c.args.object c.self.view_is c.requires in
    rw (← c.self.view_is) (header_there xs ts c.args.object c.index.result.now no_entry w c.index.ensures)
