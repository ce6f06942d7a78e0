use Rattle.std.proofs.Common.{ap, refl}
use Rattle.std.proofs.lemmas.Result.{on_ok_weaker}
use Rattle.vm_heap.proofs.{Objects.whole_same, Cells.there, Cells.text_set_there}
use Rattle.vm_heap.proofs.heap.Heap.set_text.Goals as goal

pub set_text-requires : goal.set_text-requires
set_text-requires c = there c.self.inside.layouts c.self.inside.places c.self.inside.headers c.self.inside.cells c.self.invariant c.self.view_is c.requires

pub invariant_of-self : goal.invariant_of-self
invariant_of-self c = record { same = c.self.invariant.same; whole = whole_same c.self.inside.layouts c.self.inside.headers c.set_text.new.self c.self.inside.cells.items c.set_text.ensures.headers c.self.invariant.whole }

pub returns-clause-program : goal.returns-clause-program
returns-clause-program c = ap (λ h. h.program) c.self.view_is

pub returns-clause-written : goal.returns-clause-written
returns-clause-written c = on_ok_weaker c.set_text.result (λ e. text_set_there c.self.inside.layouts c.self.inside.places c.self.inside.headers c.self.inside.cells c.self.invariant c.self.view_is c.requires _ c.args.text e refl) c.set_text.ensures.written
