use Rattle.std.proofs.Common.{◌∙◌, arith, ◌+◌, ap}
use Rattle.vm_heap.proofs.Objects.{whole_set}
use Rattle.vm_heap.proofs.Cells.{few, within_vec, there, elem_there, held, with_objects}
use Rattle.vm_heap.proofs.heap.Heap.set_elem.Goals as goal

pub of-header-requires : goal.of-header-requires
of-header-requires c = there c.self.inside.layouts c.self.inside.places c.self.inside.headers c.self.inside.cells c.self.invariant c.self.view_is c.requires.object

pub overflow_add-place : goal.overflow_add-place
overflow_add-place c =
    let k = elem_there c.self.inside.layouts c.self.inside.places c.self.inside.headers c.self.inside.cells c.self.invariant c.self.view_is c.requires.object c.requires.index (ap (λ h. h.start + c.args.index) c.of-header.ensures) in
    let b = k.within in
    let f = few c.self.inside.cells in
    omega arith

pub index_mut-requires : goal.index_mut-requires
index_mut-requires c =
    let k = elem_there c.self.inside.layouts c.self.inside.places c.self.inside.headers c.self.inside.cells c.self.invariant c.self.view_is c.requires.object c.requires.index (ap (λ h. h.start + c.args.index) c.of-header.ensures) in
    within_vec c.self.inside.cells _ k.within

pub invariant_of-self : goal.invariant_of-self
invariant_of-self c = record { same = c.self.invariant.same; whole = whole_set _ _ _ _ _ c.self.invariant.whole }

pub returns : goal.returns
returns c =
    let k = elem_there c.self.inside.layouts c.self.inside.places c.self.inside.headers c.self.inside.cells c.self.invariant c.self.view_is c.requires.object c.requires.index (ap (λ h. h.start + c.args.index) c.of-header.ensures) in
    ap (held c.self.inside.layouts) (k.after c.args.v) ∙ with_objects c.self.inside.layouts c.self.inside.places c.self.inside.headers c.self.inside.cells c.self.invariant c.self.view_is c.requires.object _
