use Rattle.std.proofs.Common.{rules}
use Rattle.vm_heap.proofs.Entries.{length-entries}
use Rattle.vm_heap.proofs.headers.Headers.len.Goals as goal

pub returns : goal.returns
returns c = rw (← c.self.view_is, length-entries c.self.inside.headers.items c.self.inside.texts.items) (search rules)
