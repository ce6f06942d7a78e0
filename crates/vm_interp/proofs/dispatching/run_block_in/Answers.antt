use Rattle.std.proofs.Common.{refl, sym, ◌∙◌}
use Rattle.vm_interp.proofs.Onward.{concluded, ends_over, looped_fit, looped_room}
use Rattle.vm_interp.proofs.dispatching.run_block_in.Goals as goal

pub returns-in-Over-clause-made : goal.returns-in-Over-clause-made
returns-in-Over-clause-made g c = ends_over g.M.Memory.world g.M.Memory.follows c.args.tables.now (g.M.Memory.program c.dispatch_loop.new.memory) (c.dispatch_loop.ensures.of ∙ sym c.requires.of.0)
    c.args.memory.now c.dispatch_loop.new.memory c.dispatch_loop.new.memory c.args.state.now c.requires.quiet c.args.left.now c.in_ok-next.next c.dispatch_loop.new.state c.dispatch_loop.new.left c.in_ok-next.ensures.rest c.requires.can c.in_ok-next.ensures.made
    c.in-Over.is c.dispatch_loop.new.state c.dispatch_loop.new.left

pub conclude-requires : goal.conclude-requires
conclude-requires g c = record {
  room = looped_room g.M.Memory.world g.M.Memory.follows c.args.tables.now c.args.tables.now refl
      c.args.memory.now c.dispatch_loop.new.memory c.dispatch_loop.new.memory c.args.state.now c.requires.quiet c.args.left.now c.in_ok-next.next c.dispatch_loop.new.state c.dispatch_loop.new.left c.in_ok-next.ensures.rest c.requires.can c.in_ok-next.ensures.made
      c.in_default.not-Over;
  fit = (
    c.requires.of.0 ∙ sym c.dispatch_loop.ensures.of,
    looped_fit g.M.Memory.world g.M.Memory.follows c.args.tables.now c.args.tables.now refl
        c.args.memory.now c.dispatch_loop.new.memory c.dispatch_loop.new.memory c.args.state.now c.requires.quiet c.args.left.now c.in_ok-next.next c.dispatch_loop.new.state c.dispatch_loop.new.left c.in_ok-next.ensures.rest c.requires.can c.in_ok-next.ensures.made
        c.in_default.not-Over,
  );
}

pub returns : goal.returns
returns g c = record {
  made = concluded g.M.Memory.world g.M.Memory.follows c.args.tables.now (g.M.Memory.program c.dispatch_loop.new.memory) (c.dispatch_loop.ensures.of ∙ sym c.requires.of.0)
      c.args.memory.now c.dispatch_loop.new.memory c.conclude.new.memory c.args.state.now c.requires.quiet c.args.left.now c.in_ok-next.next c.dispatch_loop.new.state c.dispatch_loop.new.left c.in_ok-next.ensures.rest c.requires.can c.in_ok-next.ensures.made
      c.in_default.not-Over c.in_ok-step_outcome.step_outcome c.conclude.new.state c.conclude.new.left c.in_ok-step_outcome.ensures.made.1.0 c.in_ok-step_outcome.ensures.made.1.1;
  of = c.in_ok-step_outcome.ensures.made.0 ∙ c.dispatch_loop.ensures.of;
  kept = c.dispatch_loop.ensures.kept;
}
