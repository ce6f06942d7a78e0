use Rattle.std.proofs.Common.{ℕ, ◌∙◌, ap, sym}
use Rattle.jvm_model.specs.declared.program.{MethodRec.MethodRec, Program.Program}
use Rattle.jvm_model.specs.Classes.{method_at}
use Rattle.vm_interp.proofs.Numbered.{has_body}
use Rattle.vm_interp.proofs.dispatching.body_at_top.Goals as goal

pub unreachable-requires : goal.unreachable-requires
unreachable-requires c = has_body c.args.tables.now c.args.stack.now.top.number c.args.stack.now.top.pc c.requires
    (ap (λ (m : ℕ). (method_at c.args.tables.now m).body) (sym c.number.ensures) ∙ ap (λ (p : Program). (method_at p c.number.result).body) (sym c.program.ensures) ∙ ap (λ (r : MethodRec). r.body) (sym c.in_default.ensures.record))

pub unreachable-requires-in_default-body : goal.unreachable-requires-in_default-body
unreachable-requires-in_default-body c = has_body c.args.tables.now c.args.stack.now.top.number c.args.stack.now.top.pc c.requires
    (ap (λ (m : ℕ). (method_at c.args.tables.now m).body) (sym c.number.ensures) ∙ ap (λ (p : Program). (method_at p c.number.result).body) (sym c.program.ensures) ∙ ap (λ (r : MethodRec). r.body) (sym c.in-Some.ensures.record) ∙ c.in_default-body.is)
