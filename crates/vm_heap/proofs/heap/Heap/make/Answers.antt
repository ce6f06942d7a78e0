use Rattle.std.proofs.Common.{◌≡◌, ◌∷◌, [], ◌++◌, ◌∙◌, ap, List, None, refl}
use Rattle.jvm_model.specs.declared.values.Value.{Value}
use Rattle.vm_heap.specs.{Entries.Entry, Objects.objects_of, Objects.new_cells}
use Rattle.vm_heap.proofs.{Objects.length-objects_of, Cells.held, Cells.held_last, Cells.cells_last, Cells.last_on}
use Rattle.vm_heap.proofs.heap.Heap.make.Goals as goal

pub invariant_of-self-in-Ok : goal.invariant_of-self-in-Ok
invariant_of-self-in-Ok c =
    let p = c.self.inside.layouts in
    let xs = c.self.inside.headers in
    let cs = c.self.inside.cells.items in
    let h : Entry = record { head = c.args.head; start = c.len-start.result; text = None } in
    let i : c.push.new.self ≡ xs ++ h ∷ [] = c.in-Ok.ensures.pushed in
    let m : c.append_cells.new.cells.items ≡ cs ++ new_cells p c.args.head = c.in_ok-append_cells.ensures.made in
    record { same = c.self.invariant.same; whole = rw (i, m) (cells_last p xs h cs c.args.head c.self.invariant.whole refl (c.len-start.ensures ∙ c.self.inside.cells.ok.0)) }

pub returns-in-Ok-clause-gives : goal.returns-in-Ok-clause-gives
returns-in-Ok-clause-gives c = rw (← c.self.view_is, length-objects_of c.self.inside.layouts c.self.inside.headers c.self.inside.cells.items) c.len-object.ensures

pub returns-in-Ok-clause-made : goal.returns-in-Ok-clause-made
returns-in-Ok-clause-made c =
    let p = c.self.inside.layouts in
    let xs = c.self.inside.headers in
    let cs = c.self.inside.cells.items in
    let h : Entry = record { head = c.args.head; start = c.len-start.result; text = None } in
    let i : c.push.new.self ≡ xs ++ h ∷ [] = c.in-Ok.ensures.pushed in
    let m : c.append_cells.new.cells.items ≡ cs ++ new_cells p c.args.head = c.in_ok-append_cells.ensures.made in
    ap (λ (t : List Entry). held p (objects_of p t c.append_cells.new.cells.items)) i ∙ ap (λ (t : List Value). held p (objects_of p (xs ++ h ∷ []) t)) m
    ∙ held_last p xs h cs c.args.head c.self.invariant.whole refl refl ∙ ap (λ y. last_on y c.args.head) c.self.view_is
