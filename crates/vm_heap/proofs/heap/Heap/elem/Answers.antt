use Rattle.std.proofs.Common.{arith, ◌+◌, ap}
use Rattle.vm_heap.proofs.Cells.{few, within_vec, there, elem_there, got}
use Rattle.vm_heap.proofs.heap.Heap.elem.Goals as goal

pub of-header-requires : goal.of-header-requires
of-header-requires c = there c.self.inside.layouts c.self.inside.places c.self.inside.headers c.self.inside.cells c.self.invariant c.self.view_is c.requires.object

pub overflow_add-header : goal.overflow_add-header
overflow_add-header c =
    let k = elem_there c.self.inside.layouts c.self.inside.places c.self.inside.headers c.self.inside.cells c.self.invariant c.self.view_is c.requires.object c.requires.index (ap (λ h. h.start + c.args.index) c.of-header.ensures) in
    let b = k.within in
    let f = few c.self.inside.cells in
    omega arith

pub index-requires : goal.index-requires
index-requires c =
    let k = elem_there c.self.inside.layouts c.self.inside.places c.self.inside.headers c.self.inside.cells c.self.invariant c.self.view_is c.requires.object c.requires.index (ap (λ h. h.start + c.args.index) c.of-header.ensures) in
    within_vec c.self.inside.cells _ k.within

pub returns : goal.returns
returns c =
    let k = elem_there c.self.inside.layouts c.self.inside.places c.self.inside.headers c.self.inside.cells c.self.invariant c.self.view_is c.requires.object c.requires.index (ap (λ h. h.start + c.args.index) c.of-header.ensures) in
    got c.self.inside.cells.items _ c.index.result.now _ c.index.ensures k.within k.value
