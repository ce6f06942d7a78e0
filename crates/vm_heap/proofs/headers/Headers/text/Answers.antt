use Rattle.std.proofs.Common.{◌<◌, ◌≤◌, length, get_or, None, ap, sym, ◌∙◌, ltb-true, ltb-false}
use Rattle.std.proofs.lemmas.List.{get_or_default, get_or_past}
use Rattle.jvm_model.specs.World.{text_or_empty}
use Rattle.vm_heap.specs.Entries.{no_entry}
use Rattle.vm_heap.proofs.Entries.{text_there, objects_there}
use Rattle.vm_heap.proofs.headers.Headers.text.Goals as goal

pub returns-in-Some : goal.returns-in-Some
returns-in-Some c =
    let xs = c.self.inside.headers.items in
    let ts = c.self.inside.texts.items in
    let w = objects_there xs ts c.args.self.now c.args.object c.self.view_is c.requires in
    let q : c.args.object < length c.deref.result.now = ltb-true c.args.object (length c.deref.result.now) (sym c.in-Some.ensures.lookup.0) in
    let g = c.in-Some.ensures.lookup.1 ∙ get_or_default c.deref.result.now c.args.object c.in-Some.text.now None q ∙ ap (λ y. get_or y c.args.object None) c.deref.ensures.value in
    rw (← c.self.view_is, text_there xs ts c.args.object no_entry w) (c.get-in-Some.ensures ∙ ap text_or_empty g)

pub returns-in-None : goal.returns-in-None
returns-in-None c =
    let xs = c.self.inside.headers.items in
    let ts = c.self.inside.texts.items in
    let w = objects_there xs ts c.args.self.now c.args.object c.self.view_is c.requires in
    let past : length ts ≤ c.args.object = rw c.deref.ensures.value at (ltb-false c.args.object (length c.deref.result.now) (sym c.in-None.ensures.lookup.0)) in
    rw (← c.self.view_is, text_there xs ts c.args.object no_entry w, get_or_past ts c.args.object None past) (c.get-in-None.ensures ∙ ap text_or_empty c.self.invariant.1)
