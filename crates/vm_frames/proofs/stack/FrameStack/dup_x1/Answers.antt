-- The slots go as far as the operands may.
use Rattle.std.proofs.Common.{◌≡◌, ◌∙◌, ◌<◌, List, length, ap, sym, subst, arith, length-set}
use Rattle.jvm_model.specs.declared.values.Value.{Value}
use Rattle.jvm_model.specs.Entries.{Entries, with_stack}
use Rattle.vm_frames.specs.{Stack.dup_below}
use Rattle.vm_frames.proofs.Tops.{entries-dup_x1, room_above, standing-raised}
use Rattle.vm_frames.proofs.stack.FrameStack.dup_x1.Goals as goal

pub copy-requires-clause-to : goal.copy-requires-clause-to
copy-requires-clause-to c =
    let i = c.self.inside in
    omega (arith, c.self.invariant.here, room_above i.slots i.current i.saved.items c.args.self.now c.self.invariant c.self.view_is c.requires.room)

pub copy-requires-3-clause-from : goal.copy-requires-3-clause-from
copy-requires-3-clause-from c =
    let first : length c.copy.new.self ≡ length c.self.inside.slots = ap (λ (xs : List Value). length xs) c.copy.ensures ∙ length-set _ _ _ in
    let second : length c.copy-2.new.self ≡ length c.copy.new.self = ap (λ (xs : List Value). length xs) c.copy-2.ensures ∙ length-set _ _ _ in
    let i = c.self.inside in
    omega (arith, c.self.invariant.here, room_above i.slots i.current i.saved.items c.args.self.now c.self.invariant c.self.view_is c.requires.room)

pub invariant_of-self : goal.invariant_of-self
invariant_of-self c =
    let i = c.self.inside in
    let first = ap (λ (xs : List Value). length xs) c.copy.ensures in
    let second = ap (λ (xs : List Value). length xs) c.copy-2.ensures ∙ length-set _ _ _ in
    let third = ap (λ (xs : List Value). length xs) c.copy-3.ensures ∙ length-set _ _ _ in
    rw (third, second, first) (standing-raised i.slots i.current.top _ i.current i.saved.items c.args.self.now c.self.invariant c.self.view_is c.requires.room)

pub returns : goal.returns
returns c =
    let i = c.self.inside in
    rw (c.copy-3.ensures, c.copy-2.ensures, c.copy.ensures)
    (entries-dup_x1 i.slots i.current i.saved.items _ c.self.invariant (omega (arith, c.self.invariant.here, room_above i.slots i.current i.saved.items c.args.self.now c.self.invariant c.self.view_is c.requires.room))
    (subst (λ (s : Entries). 1 < length s.top.stack) (sym c.self.view_is) c.requires.operands)
    ∙ ap (λ (s : Entries). with_stack s (dup_below s.top.stack)) c.self.view_is)
