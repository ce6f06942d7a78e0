use Rattle.std.proofs.Common.{◌∙◌, ap, sym, subst, refl, arith}
use Rattle.jvm_model.specs.{Entries.Entries, Step.step, View.touched}
use Rattle.vm_interp.specs.Dispatching.{Stands, Steps, here, next_of}
use Rattle.vm_interp.specs.{Reaching.CanStep, Abs.abs}
use Rattle.vm_interp.specs.declared.state.State.{State as Kept}
use Rattle.vm_interp.proofs.Onward.{ended_with_init, ended_with_row, row_falls, row_object, row_on, row_there, row_told}
use Rattle.vm_interp.proofs.dispatching.dispatch_loop.Goals as goal

pub loop-units-init : goal.loop-units-init
loop-units-init g c = record {
  program = c.requires.of.0;
  kept = refl;
  others = refl;
  stands = subst (λ (e : Entries). Stands c.args.tables.now c.args.cursor.body.now c.args.cursor.rest.now e) (sym c.replace-frames.ensures.value) c.requires.stands;
  so_far = λ ts. ts;
  steps = subst (λ (e : Entries). Steps c.args.tables.now (abs c.args.state.now) (g.M.Memory.world c.args.memory.now) c.args.left.now (record (abs c.args.state.now) { entries = e }) (g.M.Memory.world c.args.memory.now) c.args.left.now (λ ts. ts)) (sym c.replace-frames.ensures.value) here;
  told = λ h ts k. k;
}

pub row_at-requires : goal.row_at-requires
row_at-requires g c =
    let i = c.loop-units.invariant in
    record {
      of = (i.program, i.kept ∙ c.requires.of.1);
      linked = c.requires.linked;
      stands = i.stands;
      quiet = ap (λ (z : Kept). z.raised) i.others ∙ c.requires.quiet;
      can = subst (λ (z : Kept). CanStep c.args.tables.now (g.M.Memory.world c.loop-units.memory) (record (abs z) { entries = c.loop-units.frames })) (sym i.others)
          (c.requires.can (record (abs c.args.state.now) { entries = c.loop-units.frames }) (g.M.Memory.world c.loop-units.memory) c.loop-units.units i.so_far i.steps);
      units = let z = c.loop-units-test.true in omega arith;
    }

pub cursor_after-requires-clause-there : goal.cursor_after-requires-clause-there
cursor_after-requires-clause-there g c = λ e.
    (let i = c.loop-units.invariant in
    row_there g.M.Memory.world g.M.Memory.follows c.args.tables.now (g.M.Memory.program c.loop-units.memory) (sym i.program) c.args.memory.now c.loop-units.memory c.row_at.new.memory c.args.state.now c.requires.quiet c.loop-units.frames c.args.left.now c.loop-units.units i.so_far i.steps i.told i.stands.code.frame (next_of c.in_ok-flow.flow) c.row_at.new.stack c.row_at.new.left c.in_ok-flow.ensures.made.1.0 c.in_ok-flow.ensures.made.1.1
    c.row_at.new.stack c.row_at.new.left (ended_with_row c.args.tables.now c.args.state.now (next_of c.in_ok-flow.flow) c.row_at.new.stack c.row_at.new.left (g.M.Memory.world c.row_at.new.memory) c.requires.quiet e) c.requires.can)

pub loop-units-smaller-in-Some : goal.loop-units-smaller-in-Some
loop-units-smaller-in-Some g c =
    let i = c.loop-units.invariant in
    row_falls g.M.Memory.world g.M.Memory.follows c.args.tables.now (g.M.Memory.program c.loop-units.memory) (sym i.program) c.args.memory.now c.loop-units.memory c.row_at.new.memory c.args.state.now c.requires.quiet c.loop-units.frames c.args.left.now c.loop-units.units i.so_far i.steps i.told i.stands.code.frame (next_of c.in_ok-flow.flow) c.row_at.new.stack c.row_at.new.left c.in_ok-flow.ensures.made.1.0 c.in_ok-flow.ensures.made.1.1
    c.row_at.new.stack c.row_at.new.left (ended_with_row c.args.tables.now c.args.state.now (next_of c.in_ok-flow.flow) c.row_at.new.stack c.row_at.new.left (g.M.Memory.world c.row_at.new.memory) c.requires.quiet c.in-Some.ensures.stands.0)

pub loop-units-preserved-in-Some : goal.loop-units-preserved-in-Some
loop-units-preserved-in-Some g c =
    let i = c.loop-units.invariant in
    record {
      program = i.program ∙ sym c.in_ok-flow.ensures.made.0;
      kept = c.row_at.ensures.kept ∙ i.kept;
      others = i.others;
      stands = c.in-Some.ensures.stands.1;
      so_far = λ ts. touched (step c.args.tables.now (record (abs c.args.state.now) { entries = c.loop-units.frames })) (g.M.Memory.world c.loop-units.memory) (i.so_far ts);
      steps = row_on g.M.Memory.world g.M.Memory.follows c.args.tables.now (g.M.Memory.program c.loop-units.memory) (sym i.program) c.args.memory.now c.loop-units.memory c.row_at.new.memory c.args.state.now c.requires.quiet c.loop-units.frames c.args.left.now c.loop-units.units i.so_far i.steps i.told i.stands.code.frame (next_of c.in_ok-flow.flow) c.row_at.new.stack c.row_at.new.left c.in_ok-flow.ensures.made.1.0 c.in_ok-flow.ensures.made.1.1
          c.row_at.new.stack c.row_at.new.left (ended_with_row c.args.tables.now c.args.state.now (next_of c.in_ok-flow.flow) c.row_at.new.stack c.row_at.new.left (g.M.Memory.world c.row_at.new.memory) c.requires.quiet c.in-Some.ensures.stands.0);
      told = row_told g.M.Memory.world g.M.Memory.follows c.args.tables.now (g.M.Memory.program c.loop-units.memory) (sym i.program) c.args.memory.now c.loop-units.memory c.row_at.new.memory c.args.state.now c.requires.quiet c.loop-units.frames c.args.left.now c.loop-units.units i.so_far i.steps i.told i.stands.code.frame (next_of c.in_ok-flow.flow) c.row_at.new.stack c.row_at.new.left c.in_ok-flow.ensures.made.1.0 c.in_ok-flow.ensures.made.1.1
          c.row_at.new.stack c.row_at.new.left (ended_with_row c.args.tables.now c.args.state.now (next_of c.in_ok-flow.flow) c.row_at.new.stack c.row_at.new.left (g.M.Memory.world c.row_at.new.memory) c.requires.quiet c.in-Some.ensures.stands.0);
    }

pub cursor_past_init-requires-clause-object : goal.cursor_past_init-requires-clause-object
cursor_past_init-requires-clause-object g c =
    let i = c.loop-units.invariant in
    row_object g.M.Memory.world g.M.Memory.follows c.args.tables.now (g.M.Memory.program c.loop-units.memory) (sym i.program) c.args.memory.now c.loop-units.memory c.row_at.new.memory c.args.state.now c.requires.quiet c.loop-units.frames c.args.left.now c.loop-units.units i.so_far i.steps i.told i.stands.code.frame (next_of c.in_ok-flow.flow) c.row_at.new.stack c.row_at.new.left c.in_ok-flow.ensures.made.1.0 c.in_ok-flow.ensures.made.1.1 c.requires.can

pub cursor_past_init-requires-clause-there : goal.cursor_past_init-requires-clause-there
cursor_past_init-requires-clause-there g c = λ s n e.
    (let i = c.loop-units.invariant in
    row_there g.M.Memory.world g.M.Memory.follows c.args.tables.now (g.M.Memory.program c.loop-units.memory) (sym i.program) c.args.memory.now c.loop-units.memory c.row_at.new.memory c.args.state.now c.requires.quiet c.loop-units.frames c.args.left.now c.loop-units.units i.so_far i.steps i.told i.stands.code.frame (next_of c.in_ok-flow.flow) c.row_at.new.stack c.row_at.new.left c.in_ok-flow.ensures.made.1.0 c.in_ok-flow.ensures.made.1.1
    s n (ended_with_init c.args.tables.now c.args.state.now (next_of c.in_ok-flow.flow) c.row_at.new.stack c.row_at.new.left s n (g.M.Memory.world c.row_at.new.memory) e) c.requires.can)

pub loop-units-smaller : goal.loop-units-smaller
loop-units-smaller g c =
    let i = c.loop-units.invariant in
    row_falls g.M.Memory.world g.M.Memory.follows c.args.tables.now (g.M.Memory.program c.loop-units.memory) (sym i.program) c.args.memory.now c.loop-units.memory c.row_at.new.memory c.args.state.now c.requires.quiet c.loop-units.frames c.args.left.now c.loop-units.units i.so_far i.steps i.told i.stands.code.frame (next_of c.in_ok-flow.flow) c.row_at.new.stack c.row_at.new.left c.in_ok-flow.ensures.made.1.0 c.in_ok-flow.ensures.made.1.1
    c.cursor_past_init.new.stack c.cursor_past_init.new.left (ended_with_init c.args.tables.now c.args.state.now (next_of c.in_ok-flow.flow) c.row_at.new.stack c.row_at.new.left c.cursor_past_init.new.stack c.cursor_past_init.new.left (g.M.Memory.world c.row_at.new.memory) c.in-Some-cursor_past_init.ensures.ended.0)

pub loop-units-preserved : goal.loop-units-preserved
loop-units-preserved g c =
    let i = c.loop-units.invariant in
    record {
      program = i.program ∙ sym c.in_ok-flow.ensures.made.0;
      kept = c.row_at.ensures.kept ∙ i.kept;
      others = i.others;
      stands = c.in-Some-cursor_past_init.ensures.ended.1;
      so_far = λ ts. touched (step c.args.tables.now (record (abs c.args.state.now) { entries = c.loop-units.frames })) (g.M.Memory.world c.loop-units.memory) (i.so_far ts);
      steps = row_on g.M.Memory.world g.M.Memory.follows c.args.tables.now (g.M.Memory.program c.loop-units.memory) (sym i.program) c.args.memory.now c.loop-units.memory c.row_at.new.memory c.args.state.now c.requires.quiet c.loop-units.frames c.args.left.now c.loop-units.units i.so_far i.steps i.told i.stands.code.frame (next_of c.in_ok-flow.flow) c.row_at.new.stack c.row_at.new.left c.in_ok-flow.ensures.made.1.0 c.in_ok-flow.ensures.made.1.1
          c.cursor_past_init.new.stack c.cursor_past_init.new.left (ended_with_init c.args.tables.now c.args.state.now (next_of c.in_ok-flow.flow) c.row_at.new.stack c.row_at.new.left c.cursor_past_init.new.stack c.cursor_past_init.new.left (g.M.Memory.world c.row_at.new.memory) c.in-Some-cursor_past_init.ensures.ended.0);
      told = row_told g.M.Memory.world g.M.Memory.follows c.args.tables.now (g.M.Memory.program c.loop-units.memory) (sym i.program) c.args.memory.now c.loop-units.memory c.row_at.new.memory c.args.state.now c.requires.quiet c.loop-units.frames c.args.left.now c.loop-units.units i.so_far i.steps i.told i.stands.code.frame (next_of c.in_ok-flow.flow) c.row_at.new.stack c.row_at.new.left c.in_ok-flow.ensures.made.1.0 c.in_ok-flow.ensures.made.1.1
          c.cursor_past_init.new.stack c.cursor_past_init.new.left (ended_with_init c.args.tables.now c.args.state.now (next_of c.in_ok-flow.flow) c.row_at.new.stack c.row_at.new.left c.cursor_past_init.new.stack c.cursor_past_init.new.left (g.M.Memory.world c.row_at.new.memory) c.in-Some-cursor_past_init.ensures.ended.0);
    }
