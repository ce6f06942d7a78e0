use Rattle.jvm_model.specs.Step.{row_here, step}
use Rattle.jvm_model.proofs.Steps.{step_runs}
use Rattle.vm_interp.specs.{Abs.abs, Turns.by_row}
use Rattle.vm_interp.proofs.{Found.fits, Stepped.same_part}
use Rattle.vm_interp.proofs.stepping.step_safe.Goals as goal

pub run_step-requires : goal.run_step-requires
run_step-requires g c =
    let runs = c.is_running.ensures.runs c.if-is_running.true in
    record {
      selections = c.requires.of.1;
      space = c.requires.can.space runs.0 runs.1;
      native_space = c.requires.can.native_space runs.0 runs.1;
      fit = (c.requires.of.0, fits c.args.tables.now (abs c.args.state.now) (g.M.Memory.world c.args.memory.now) c.requires.can runs.0 runs.1);
    }

pub returns-then-is_running-clause-made : goal.returns-then-is_running-clause-made
returns-then-is_running-clause-made g c =
    let runs = c.is_running.ensures.runs c.if-is_running.true in
    same_part g.M.Memory.program g.M.Memory.world g.M.Memory.follows step (by_row row_here) c.args.memory.now c.run_step.new.memory c.args.state.now c.args.left.now c.run_step.result c.run_step.new.state c.run_step.new.left
    (step_runs (g.M.Memory.program c.args.memory.now) (abs c.args.state.now) runs.0 runs.1) c.run_step.ensures.made
