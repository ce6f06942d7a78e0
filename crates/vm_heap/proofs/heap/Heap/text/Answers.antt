use Rattle.std.proofs.Common.{◌∙◌, ap}
use Rattle.jvm_model.specs.World.{text_or_empty}
use Rattle.vm_heap.proofs.Cells.{there, text_seen}
use Rattle.vm_heap.proofs.heap.Heap.text.Goals as goal

pub text-requires : goal.text-requires
text-requires c = there c.self.inside.layouts c.self.inside.places c.self.inside.headers c.self.inside.cells c.self.invariant c.self.view_is c.requires

pub returns : goal.returns
returns c = c.text.ensures ∙ ap text_or_empty (text_seen c.self.inside.layouts c.self.inside.places c.self.inside.headers c.self.inside.cells c.self.invariant c.self.view_is c.requires)
