use Rattle.std.proofs.Common.{◌∙◌, ap, sym, cond, None}
use Rattle.std.specs.Str.{bytes_eq}
use Rattle.jvm_model.specs.World.{look}
use Rattle.sim_store.specs.Parts.{in_part}
use Rattle.vm_heap.proofs.Overlay.{found_changed, relent}
use Rattle.vm_heap.proofs.changes.Changes.get.Goals as goal

pub returns-then-has : goal.returns-then-has
returns-then-has c =
    let o = c.self.inside.opening in
    let d = c.self.inside.changed in
    let e = found_changed c.args.part o d c.args.name.now c.self.invariant ∙ ap (λ b. cond b (look bytes_eq None (in_part c.args.part d) c.args.name.now) (look bytes_eq None (in_part c.args.part o) c.args.name.now)) (sym c.has.ensures ∙ c.if-has.true) in
    rw (← c.self.view_is) (relent c.get.result _ _ e c.get.ensures)

pub returns : goal.returns
returns c =
    let o = c.self.inside.opening in
    let d = c.self.inside.changed in
    let e = found_changed c.args.part o d c.args.name.now c.self.invariant ∙ ap (λ b. cond b (look bytes_eq None (in_part c.args.part d) c.args.name.now) (look bytes_eq None (in_part c.args.part o) c.args.name.now)) (sym c.has.ensures ∙ c.if-has.false) in
    rw (← c.self.view_is) (relent c.get-2.result _ _ e c.get-2.ensures)
