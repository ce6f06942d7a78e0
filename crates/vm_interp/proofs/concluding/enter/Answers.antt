use Rattle.std.proofs.Common.{sym, ◌∙◌}
use Rattle.jvm_model.specs.declared.outcome.Next.TheVariants.{Enter}
use Rattle.vm_interp.specs.{Abs.abs, Turns.after, Turns.builtin_part}
use Rattle.vm_interp.proofs.{Builtin.enters_native, Stepped.same_part}
use Rattle.vm_interp.proofs.concluding.enter.Goals as goal

pub returns-in-Some : goal.returns-in-Some
returns-in-Some g c =
    record {
      made = same_part g.M.Memory.program g.M.Memory.world g.M.Memory.follows (after (Enter c.args.method)) (builtin_part c.in-Some.which) c.args.memory.now c.run_builtin.new.memory c.args.state.now c.args.left.now c.run_builtin.result c.run_builtin.new.state c.run_builtin.new.left
          (enters_native (g.M.Memory.program c.args.memory.now) c.args.tables.now c.in-Some.which c.args.method (abs c.args.state.now) c.requires.fit.0 (sym c.native_of.ensures ∙ c.in-Some.is)) c.run_builtin.ensures.made;
    }
