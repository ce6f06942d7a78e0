-- There is room on the operands for what an instruction puts there (JVMS 4.7.3 and 4.10.1).
use Rattle.std.proofs.Common.{◌≡◌, ℕ, ◌+◌, ◌≤◌, length, Some, sym, ◌∙◌, ap, subst, arith}
use Rattle.std.proofs.lemmas.Option.{same_Some}
use Rattle.jvm_model.specs.declared.{state.EntryKind.EntryKind, instr.Instr.Instr, program.Body.Body, program.Program.Program}
use Rattle.jvm_model.specs.{World.World, Classes.method_at, Entries.Entries}
use Rattle.type_frames.specs.Typing.{IsTyped}
use Rattle.check_sound.specs.ReachLaw.{most_operands, puts}
use Rattle.check_sound.proofs.{Reaching.room, Ready.Ready}
use Rattle.vm_frames.specs.Stack.{HasRoom, operand_limit}

-- the method's body is the one that the frame has
pub room_of : (p : Program) (ty : IsTyped p) {w : World} (m : ℕ) (b : Body) → (method_at p m).body ≡ Some b → b.max_stack ≤ most_operands → (s : Entries) (i : Instr) → s.top.number ≡ m → Ready p w s i → HasRoom (puts i) s
room_of p ty m b e l s i n r =
    let z : Some b ≡ Some r.body = sym e ∙ (ap (λ (k : ℕ). (method_at p k).body) (sym n) ∙ r.has_code) in
    let k = room p ty s i r (subst (λ (x : Body). x.max_stack ≤ most_operands) (same_Some b r.body z) l) in
    subst (λ (x : EntryKind). length s.top.stack + puts i ≤ operand_limit x) (sym r.kind) (omega arith)
