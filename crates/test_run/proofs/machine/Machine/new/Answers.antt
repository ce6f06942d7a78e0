use Rattle.std.proofs.Common.{ℕ, List, sym, subst, ◌∙◌}
use Rattle.jvm_model.specs.{declared.program.Program.Program, World.World}
use Rattle.type_frames.specs.TypedState.{TypedWorld}
use Rattle.check_sound.specs.ReachLaw.{HasStackLimits}
use Rattle.test_run.specs.Running.{IsAfter}
use Rattle.test_run.proofs.After.{after_none}
use Rattle.test_run.proofs.machine.Machine.new.Goals as goal

pub invariant_of-result : goal.invariant_of-result
invariant_of-result g c =
    let p = c.args.p.now in
    let w = g.M.Memory.world c.args.memory in
    let e = c.program-program.ensures.same in
    record {
      tables_of = c.in_ok-tables.ensures ∙ e;
      selections_of = c.in_ok-selections.ensures ∙ e;
      memory_of = c.requires.program;
      limits = subst (λ (z : Program). HasStackLimits z) e c.stack_limits.ensures;
      stands = λ _. record {
        after = subst (λ (z : List ℕ). IsAfter p z w) (sym c.new-3.ensures) (after_none p w c.requires.world);
        typed = subst (λ (z : World). TypedWorld p z) (sym c.requires.world) (c.reach_law.ensures.opened p c.program-program.ensures.typed);
      };
    }
