use Rattle.std.proofs.Common.{sym}
use Rattle.vm_interp.specs.{Abs.abs, Dispatching.here}
use Rattle.vm_interp.proofs.{Found.row_safe, Numbered.has_form, Onward.alone}
use Rattle.vm_interp.proofs.dispatching.run_block.Goals as goal

pub cursor_in_method-cursor-requires : goal.cursor_in_method-cursor-requires
cursor_in_method-cursor-requires g c =
    let runs = c.is_running.ensures.runs c.if-is_running.true in
    let can = c.requires.can (abs c.args.state.now) (g.M.Memory.world c.args.memory.now) c.args.left.now (λ ts. ts) here in
    record {
      frame = runs.0;
      there = λ k. has_form c.args.tables.now c.args.state.now.frames (g.M.Memory.world c.args.memory.now)
          (row_safe c.args.tables.now (abs c.args.state.now) (g.M.Memory.world c.args.memory.now) can k runs.1);
    }

pub step_aside-requires : goal.step_aside-requires
step_aside-requires g c = record {
  program = c.requires.of.0;
  can = c.requires.can (abs c.args.state.now) (g.M.Memory.world c.args.memory.now) c.args.left.now (λ ts. ts) here;
  aside = c.is_running.ensures.rests c.if-is_running.false;
}

pub returns-clause-made : goal.returns-clause-made
returns-clause-made g c = alone g.M.Memory.world g.M.Memory.follows c.args.tables.now (g.M.Memory.program c.args.memory.now) (sym c.requires.of.0) c.args.memory.now c.step_aside.new.memory c.args.state.now c.args.left.now c.in_ok-step_outcome.step_outcome c.step_aside.new.state c.step_aside.new.left c.in_ok-step_outcome.ensures.made.1.0 c.in_ok-step_outcome.ensures.made.1.1
