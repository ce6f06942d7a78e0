use Rattle.std.proofs.Common.{◌∙◌, ap}
use Rattle.vm_heap.proofs.Cells.{there, head_seen}
use Rattle.vm_heap.proofs.heap.Heap.head.Goals as goal

pub of-requires : goal.of-requires
of-requires c = there c.self.inside.layouts c.self.inside.places c.self.inside.headers c.self.inside.cells c.self.invariant c.self.view_is c.requires

pub returns : goal.returns
returns c = ap (λ h. h.head) c.of.ensures ∙ head_seen c.self.inside.layouts c.self.inside.places c.self.inside.headers c.self.inside.cells c.self.invariant c.self.view_is c.requires
