use Rattle.std.proofs.Common.{◌≡◌, ℕ, List, sym, subst, ap, ◌∙◌}
use Rattle.jvm_model.specs.{declared.program.Program.Program, Suite.opening, World.World}
use Rattle.type_frames.specs.TypedState.{TypedWorld}
use Rattle.test_run.specs.Running.{IsAfter}
use Rattle.test_run.proofs.After.{after_none}
use Rattle.test_run.proofs.machine.Machine+RegionMemory.reset.Goals as goal

pub invariant_of-self : goal.invariant_of-self
invariant_of-self c =
    let p = c.self.inside.checked.now in
    let w : c.reset.new.self.world ≡ opening p = c.reset.ensures.world ∙ ap (λ (q : Program). opening q) c.self.invariant.memory_of in
    record {
      tables_of = c.self.invariant.tables_of;
      selections_of = c.self.invariant.selections_of;
      memory_of = c.reset.ensures.program ∙ c.self.invariant.memory_of;
      limits = c.self.invariant.limits;
      stands = λ _. record {
        after = subst (λ (q : List ℕ). IsAfter p q c.reset.new.self.world) (sym c.new.ensures) (after_none p c.reset.new.self.world w);
        typed = subst (λ (z : World). TypedWorld p z) (sym w) (c.reach_law.ensures.opened p c.program-program.ensures.typed);
      };
    }
