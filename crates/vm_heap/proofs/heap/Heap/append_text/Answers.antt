use Rattle.std.proofs.Common.{◌++◌, ap, get_or, Some}
use Rattle.std.proofs.lemmas.Result.{on_ok_weaker}
use Rattle.jvm_model.specs.World.{no_object, text_or_empty}
use Rattle.vm_heap.proofs.{Objects.whole_same, Cells.there, Cells.text_seen, Cells.text_set_there}
use Rattle.vm_heap.proofs.heap.Heap.append_text.Goals as goal

pub append_text-requires : goal.append_text-requires
append_text-requires c = there c.self.inside.layouts c.self.inside.places c.self.inside.headers c.self.inside.cells c.self.invariant c.self.view_is c.requires

pub invariant_of-self : goal.invariant_of-self
invariant_of-self c = record { same = c.self.invariant.same; whole = whole_same c.self.inside.layouts c.self.inside.headers c.append_text.new.self c.self.inside.cells.items c.append_text.ensures.headers c.self.invariant.whole }

pub returns-clause-program : goal.returns-clause-program
returns-clause-program c = ap (λ h. h.program) c.self.view_is

pub returns-clause-appended : goal.returns-clause-appended
returns-clause-appended c =
    let same = text_seen c.self.inside.layouts c.self.inside.places c.self.inside.headers c.self.inside.cells c.self.invariant c.self.view_is c.requires in
    on_ok_weaker c.append_text.result (λ e. text_set_there c.self.inside.layouts c.self.inside.places c.self.inside.headers c.self.inside.cells c.self.invariant c.self.view_is c.requires _ (text_or_empty (get_or c.args.self.now.objects c.args.object no_object).text ++ c.args.more.now) e
    (ap (λ u. Some (text_or_empty u ++ c.args.more.now)) same)) c.append_text.ensures.appended
