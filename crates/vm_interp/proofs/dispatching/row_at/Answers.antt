use Rattle.std.proofs.Common.{◌≡◌, ℕ, Some, sym, subst}
use Rattle.jvm_model.specs.declared.state.EntryKind.TheVariants.{InMethod}
use Rattle.jvm_model.specs.Classes.{form_at, method_at, next_place}
use Rattle.jvm_model.specs.{Entries.Entries, Step.row_here}
use Rattle.vm_mem.specs.Refines.{IsReady}
use Rattle.vm_interp.specs.Dispatching.{CanRun, EndsFlow, left_behind, place_behind}
use Rattle.vm_interp.specs.{Reaching.HasSpace, Abs.abs}
use Rattle.vm_interp.proofs.{Found.can_run, Found.row_safe, Onward.placed_again}
use Rattle.vm_interp.proofs.Numbered.{left_in, looked_up, rest_some, stands_form, stands_next, stands_pc}
use Rattle.vm_interp.proofs.dispatching.row_at.Goals as goal

pub hot_row-requires : goal.hot_row-requires
hot_row-requires g c =
    let there = looked_up c.args.cursor.rest.now 0 c.index-rest-0.result (rest_some c.args.cursor.body.now c.args.cursor.rest.now c.requires.stands.placed.of) c.index-rest-0.is in
    let same = placed_again c.args.stack.now c.set_pc.new.self c.index-rest-0.result.pc c.set_pc.ensures (stands_pc c.args.tables.now c.args.cursor.body.now c.args.cursor.rest.now c.args.stack.now c.index-rest-0.result c.requires.linked c.requires.stands there) in
    let found = stands_form c.args.tables.now c.args.cursor.body.now c.args.cursor.rest.now c.args.stack.now c.index-rest-0.result c.requires.linked c.requires.stands there in
    record {
      selections = c.requires.of.1;
      within = rest_some c.args.cursor.body.now c.args.cursor.rest.now c.requires.stands.placed.of;
      found = subst (λ (e : Entries). form_at c.args.tables.now e.top.number e.top.pc ≡ Some c.index-rest-0.result.form) (sym same) found;
      place = subst (λ (e : Entries). next_place c.args.tables.now e.top.number e.top.pc ≡ place_behind c.args.cursor.body.now c.args.cursor.rest.now) (sym same)
          (stands_next c.args.tables.now c.args.cursor.body.now c.args.cursor.rest.now c.args.stack.now c.index-rest-0.result c.requires.linked c.requires.stands there);
      space = subst (λ (e : Entries). HasSpace c.args.tables.now e) (sym same) (c.requires.can.space c.requires.stands.code.frame c.requires.quiet);
      row = subst (λ (e : Entries). IsReady row_here c.args.tables.now g.M.Memory.program g.M.Memory.world c.args.memory.now e) (sym same)
          (c.requires.of.0, row_safe c.args.tables.now (record (abs c.args._state.now) { entries = c.args.stack.now }) (g.M.Memory.world c.args.memory.now) c.requires.can c.requires.stands.code.frame c.requires.quiet);
      can = subst (λ (e : Entries). CanRun c.index-rest-0.result.form e) (sym same)
          (can_run c.args.tables.now (record (abs c.args._state.now) { entries = c.args.stack.now }) (g.M.Memory.world c.args.memory.now) c.requires.can c.requires.stands.code.frame c.requires.quiet c.index-rest-0.result.form found);
      frame = subst (λ (e : Entries). e.top.kind ≡ InMethod) (sym same) c.requires.stands.code.frame;
      units = c.requires.units;
    }

pub returns : goal.returns
returns g c =
    let there = looked_up c.args.cursor.rest.now 0 c.index-rest-0.result (rest_some c.args.cursor.body.now c.args.cursor.rest.now c.requires.stands.placed.of) c.index-rest-0.is in
    let same = placed_again c.args.stack.now c.set_pc.new.self c.index-rest-0.result.pc c.set_pc.ensures (stands_pc c.args.tables.now c.args.cursor.body.now c.args.cursor.rest.now c.args.stack.now c.index-rest-0.result c.requires.linked c.requires.stands there) in
    let own = subst (λ (e : Entries). (method_at c.args.tables.now e.top.number).body ≡ Some c.args.cursor.body.now) (sym same) c.requires.stands.code.own in
    record {
      made = (
        c.in_ok-flow.ensures.made.0,
        subst (λ (n : ℕ). EndsFlow row_here g.M.Memory.program g.M.Memory.world g.M.Memory.follows c.args.memory.now c.hot_row.new.memory c.args.stack.now c.args.left.now c.in_ok-flow.flow c.hot_row.new.stack n) (sym c.count_behind.ensures)
            (subst (λ (e : Entries). EndsFlow row_here g.M.Memory.program g.M.Memory.world g.M.Memory.follows c.args.memory.now c.hot_row.new.memory e c.args.left.now c.in_ok-flow.flow c.hot_row.new.stack (left_behind c.in_ok-flow.flow c.hot_row.new.left)) same c.in_ok-flow.ensures.made.1.0),
      );
      left = left_in c.args.tables.now c.args.cursor.body.now c.set_pc.new.self.top.number (place_behind c.args.cursor.body.now c.args.cursor.rest.now) c.hot_row.new.stack c.in_ok-flow.flow own c.in_ok-flow.ensures.left;
      kept = c.hot_row.ensures.kept;
    }
