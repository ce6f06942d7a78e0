use Rattle.std.proofs.Common.{◌≡◌, sym, subst, ◌∙◌, arith}
use Rattle.jvm_model.specs.{declared.program.Program.Program, World.World, State.State}
use Rattle.type_frames.specs.{Typing.IsTyped, TypedState.TypedState, TypedState.TypedWorld}
use Rattle.check_sound.specs.ReachLaw.{HasStackLimits}
use Rattle.vm_interp.specs.Abs.{abs}
use Rattle.machine_tests.proofs.steps.stepped.Goals as goal

pub step-requires : goal.step-requires
step-requires c =
    let p = c.args.checked.now in
    let w = c.args.memory.now.world in
    let at = c.requires.parts in
    let same : p ≡ c.args.tables.now = sym at.0 in
    let tests = c.requires.tests in
    let opened : TypedWorld p w = subst (λ (z : World). TypedWorld p z) (sym at.3) (c.reach_law.ensures.opened p c.program.ensures.typed) in
    let typed : TypedState p w (abs c.args.state.now) = subst (λ (s : State). TypedState p w s) (sym c.requires.state) (c.started_law.ensures p w 2 opened (omega arith) (omega arith)) in
    record {
      of = (at.0 ∙ sym at.2, at.1 ∙ same);
      checked = subst (λ (z : Program). IsTyped z) same c.program.ensures.typed;
      limits = subst (λ (z : Program). HasStackLimits z) (c.program.ensures.same ∙ same) c.stack_limits.ensures;
      typed = subst (λ (z : Program). TypedState z w (abs c.args.state.now)) same typed;
    }
