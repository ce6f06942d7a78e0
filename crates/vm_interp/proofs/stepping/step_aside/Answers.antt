use Rattle.std.proofs.Common.{sym, ◌∙◌}
use Rattle.jvm_model.specs.{Initialise.row_finish, Step.step}
use Rattle.jvm_model.proofs.Steps.{step_fails, step_finishes, step_raises}
use Rattle.class_init.specs.Starting.{fail_row}
use Rattle.exception_flow.specs.Raise.{raise_row}
use Rattle.vm_interp.specs.{Abs.abs, Turns.by_row}
use Rattle.vm_interp.proofs.Stepped.{same_part}
use Rattle.vm_interp.proofs.stepping.step_aside.Goals as goal

pub returns-in-Some : goal.returns-in-Some
returns-in-Some g c =
    record {
      made = same_part g.M.Memory.program g.M.Memory.world g.M.Memory.follows step (by_row (raise_row c.in-Some.thrown)) c.args.memory.now c.raise_step.new.memory c.args.state.now c.args.left.now c.raise_step.result c.raise_step.new.state c.raise_step.new.left
          (step_raises (g.M.Memory.program c.args.memory.now) (abs c.args.state.now) c.in-Some.thrown (sym c.kind.ensures ∙ c.in-InMethod.is) c.in-Some.is) c.raise_step.ensures.made;
    }

pub returns-in-None-raised : goal.returns-in-None-raised
returns-in-None-raised g c =
    record {
      made = same_part g.M.Memory.program g.M.Memory.world g.M.Memory.follows step (by_row row_finish) c.args.memory.now c.finish_step.new.memory c.args.state.now c.args.left.now c.finish_step.result c.finish_step.new.state c.finish_step.new.left
          (step_finishes (g.M.Memory.program c.args.memory.now) (abs c.args.state.now) c.in-InClass.entered (sym c.kind.ensures ∙ c.in-InClass.is) c.in-None-raised.is) c.finish_step.ensures.made;
    }

pub returns-in-Some-raised : goal.returns-in-Some-raised
returns-in-Some-raised g c =
    record {
      made = same_part g.M.Memory.program g.M.Memory.world g.M.Memory.follows step (by_row (fail_row c.in-Some-raised.thrown)) c.args.memory.now c.fail_step.new.memory c.args.state.now c.args.left.now c.fail_step.result c.fail_step.new.state c.fail_step.new.left
          (step_fails (g.M.Memory.program c.args.memory.now) (abs c.args.state.now) c.in-InClass.entered c.in-Some-raised.thrown (sym c.kind.ensures ∙ c.in-InClass.is) c.in-Some-raised.is) c.fail_step.ensures.made;
    }
