use Rattle.std.proofs.Common.{arith, ◌+◌, ap}
use Rattle.vm_heap.proofs.Cells.{few, within_vec, there, field_known, field_there, got}
use Rattle.vm_heap.proofs.heap.Heap.field.Goals as goal

pub of-requires : goal.of-requires
of-requires c = there c.self.inside.layouts c.self.inside.places c.self.inside.headers c.self.inside.cells c.self.invariant c.self.view_is c.requires.object

pub place_of-requires : goal.place_of-requires
place_of-requires c = field_known c.self.inside.layouts c.self.inside.places c.self.inside.headers c.self.inside.cells c.self.invariant c.self.view_is c.requires.object c.args.field c.requires.field

pub overflow_add-start : goal.overflow_add-start
overflow_add-start c =
    let k = field_there c.self.inside.layouts c.self.inside.places c.self.inside.headers c.self.inside.cells c.self.invariant c.self.view_is c.requires.object c.args.field c.requires.field c.place_of.ensures (ap (λ h. h.start + c.place_of.result) c.of.ensures) in
    let b = k.within in
    let f = few c.self.inside.cells in
    omega arith

pub index-requires : goal.index-requires
index-requires c =
    let k = field_there c.self.inside.layouts c.self.inside.places c.self.inside.headers c.self.inside.cells c.self.invariant c.self.view_is c.requires.object c.args.field c.requires.field c.place_of.ensures (ap (λ h. h.start + c.place_of.result) c.of.ensures) in
    within_vec c.self.inside.cells _ k.within

pub returns : goal.returns
returns c =
    let k = field_there c.self.inside.layouts c.self.inside.places c.self.inside.headers c.self.inside.cells c.self.invariant c.self.view_is c.requires.object c.args.field c.requires.field c.place_of.ensures (ap (λ h. h.start + c.place_of.result) c.of.ensures) in
    got c.self.inside.cells.items _ c.index.result.now _ c.index.ensures k.within k.value
