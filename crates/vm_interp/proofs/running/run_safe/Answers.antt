use Rattle.std.proofs.Common.{List, refl, sym, subst, ◌∙◌, arith}
use Rattle.jvm_model.specs.declared.values.Touch.{Touch}
use Rattle.jvm_model.specs.{Step.step, View.touched}
use Rattle.vm_interp.specs.Abs.{abs}
use Rattle.vm_interp.proofs.Onward.{advanced, no_more, steps_can}
use Rattle.vm_interp.proofs.Whole.{rest_at_first, goes_on_rest, goes_on_falls, gives_none, gives_so, tells_so, not_over, goes_not_over}
use Rattle.vm_interp.proofs.running.run_safe.Goals as goal

pub loop-left-init : goal.loop-left-init
loop-left-init g c = record {
  of = refl;
  kept = refl;
  so_far = λ ts. ts;
  rest = rest_at_first c.args.tables.now c.args.state.now.test (g.M.Memory.world c.args.memory.now) c.args.left.now (abs c.args.state.now) c.requires.start;
  told = λ h ts k. k;
}

pub run_slice-requires : goal.run_slice-requires
run_slice-requires g c = record {
  of = (c.requires.of.0 ∙ sym c.loop-left.invariant.of, c.loop-left.invariant.kept ∙ c.requires.of.1);
  linked = c.requires.linked;
  can = steps_can c.args.tables.now c.args.tables.now refl c.args.state.now.test (g.M.Memory.world c.args.memory.now) c.args.left.now (abs c.loop-left.state) (g.M.Memory.world c.loop-left.memory) c.loop-left.left c.loop-left.invariant.so_far c.requires.safe c.loop-left.invariant.rest;
}

pub loop-left-preserved : goal.loop-left-preserved
loop-left-preserved g c =
    let a = c.in_ok-end.ensures.made in
    let rest = advanced g.M.Memory.world g.M.Memory.follows c.args.tables.now c.args.tables.now refl c.loop-left.memory c.run_slice.new.memory c.loop-left.state c.loop-left.left _ c.run_slice.new.state c.run_slice.new.left c.args.state.now.test (g.M.Memory.world c.args.memory.now) c.args.left.now c.loop-left.invariant.so_far c.loop-left.invariant.rest a in
    record {
      of = c.run_slice.ensures.of ∙ c.loop-left.invariant.of;
      kept = c.run_slice.ensures.kept ∙ c.loop-left.invariant.kept;
      so_far = λ ts. touched (step c.args.tables.now a.last) a.there (a.so_far (c.loop-left.invariant.so_far ts));
      rest = goes_on_rest c.args.tables.now c.args.tables.now refl c.args.state.now.test (g.M.Memory.world c.args.memory.now) c.args.left.now a.last a.there a.units _ rest c.in_ok-end.field-0 c.run_slice.new.state (g.M.Memory.world c.run_slice.new.memory) c.run_slice.new.left a.meets c.in_default.is;
      told = λ h ts k. a.told (goes_not_over c.in_ok-end.field-0 c.in_default.is) h (c.loop-left.invariant.so_far ts) (c.loop-left.invariant.told h ts k);
    }

pub loop-left-smaller : goal.loop-left-smaller
loop-left-smaller g c =
    let a = c.in_ok-end.ensures.made in
    let rest = advanced g.M.Memory.world g.M.Memory.follows c.args.tables.now c.args.tables.now refl c.loop-left.memory c.run_slice.new.memory c.loop-left.state c.loop-left.left _ c.run_slice.new.state c.run_slice.new.left c.args.state.now.test (g.M.Memory.world c.args.memory.now) c.args.left.now c.loop-left.invariant.so_far c.loop-left.invariant.rest a in
    let less = goes_on_falls c.args.tables.now c.args.tables.now refl c.args.state.now.test (g.M.Memory.world c.args.memory.now) c.args.left.now a.last a.there a.units _ rest c.in_ok-end.field-0 c.run_slice.new.state (g.M.Memory.world c.run_slice.new.memory) c.run_slice.new.left a.meets c.in_default.is in
    let more = no_more g.M.Memory.world g.M.Memory.follows c.args.tables.now c.args.tables.now refl c.loop-left.memory c.run_slice.new.memory c.loop-left.state c.loop-left.left _ c.run_slice.new.state c.run_slice.new.left a in
    omega arith

pub returns-in-Some-clause-gives : goal.returns-in-Some-clause-gives
returns-in-Some-clause-gives g c =
    let a = c.in_ok-end.ensures.made in
    let rest = advanced g.M.Memory.world g.M.Memory.follows c.args.tables.now c.args.tables.now refl c.loop-left.memory c.run_slice.new.memory c.loop-left.state c.loop-left.left _ c.run_slice.new.state c.run_slice.new.left c.args.state.now.test (g.M.Memory.world c.args.memory.now) c.args.left.now c.loop-left.invariant.so_far c.loop-left.invariant.rest a in
    gives_so c.args.tables.now c.args.tables.now refl c.args.state.now.test (g.M.Memory.world c.args.memory.now) c.args.left.now a.last a.there a.units _ rest c.in_ok-end.field-0 c.run_slice.new.state (g.M.Memory.world c.run_slice.new.memory) c.run_slice.new.left a.meets c.requires.safe c.in-Some.end c.in-Some.is

pub returns-in-Some-clause-told : goal.returns-in-Some-clause-told
returns-in-Some-clause-told g c =
    let a = c.in_ok-end.ensures.made in
    let rest = advanced g.M.Memory.world g.M.Memory.follows c.args.tables.now c.args.tables.now refl c.loop-left.memory c.run_slice.new.memory c.loop-left.state c.loop-left.left _ c.run_slice.new.state c.run_slice.new.left c.args.state.now.test (g.M.Memory.world c.args.memory.now) c.args.left.now c.loop-left.invariant.so_far c.loop-left.invariant.rest a in
    λ i h ts k. subst (λ (us : List Touch). g.M.Memory.follows c.run_slice.new.memory h us)
    (sym (tells_so c.args.tables.now c.args.tables.now refl c.args.state.now.test (g.M.Memory.world c.args.memory.now) c.args.left.now a.last a.there a.units _ rest c.in_ok-end.field-0 c.run_slice.new.state (g.M.Memory.world c.run_slice.new.memory) c.run_slice.new.left a.meets c.in-Some.end c.in-Some.is i ts))
    (a.told (not_over c.in_ok-end.field-0 c.in-Some.end c.in-Some.is i) h (c.loop-left.invariant.so_far ts) (c.loop-left.invariant.told h ts k))

pub returns-clause-gives : goal.returns-clause-gives
returns-clause-gives g c = gives_none c.args.tables.now c.args.state.now.test (g.M.Memory.world c.args.memory.now) c.args.left.now (abs c.loop-left.state) (g.M.Memory.world c.loop-left.memory) c.loop-left.left c.loop-left.invariant.so_far c.loop-left.invariant.rest (let z = c.loop-left-test.false in omega arith)
