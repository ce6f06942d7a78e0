use Rattle.std.proofs.Common.{◌≡◌, sym, subst, arith}
use Rattle.std.proofs.lemmas.Result.{on_ok_weaker}
use Rattle.jvm_model.specs.declared.program.Program.{Program}
use Rattle.quiet_init.specs.{Leaving.CanDoAll, Leaving.before_end, Leaving.entered, Quiet.left_after}
use Rattle.quiet_init.proofs.Leaves.{quiet_there, never_unstarted, start_can, start_leaves}
use Rattle.quiet_init.proofs.leaving.leave.Goals as goal

pub begin-requires : goal.begin-requires
begin-requires c = let h = quiet_there c.args.p.now c.requires.typed c.args.class c.requires.quiet in let k = c.requires.places.states in omega arith

pub returns-in-None-clause-leaves : goal.returns-in-None-clause-leaves
returns-in-None-clause-leaves c = absurd (never_unstarted c.args.p.now c.requires.typed c.args.class c.requires.quiet c.in-None.ensures)

pub run_body-requires-clause-can : goal.run_body-requires-clause-can
run_body-requires-clause-can c = λ l. subst (λ (p : Program). CanDoAll p (before_end c.in-Some.body.now.code) (entered c.in-Some.method c.in-Some.body.now) c.begin.new.self) (sym c.requires.tables)
    (start_can c.args.p.now c.requires.typed c.args.class c.requires.quiet c.args.memory.now c.begin.new.self c.begin.ensures c.requires.places c.requires.own c.in-Some.method c.in-Some.body.now c.in-Some.ensures l)

pub returns-in-Some-clause-leaves : goal.returns-in-Some-clause-leaves
returns-in-Some-clause-leaves c = on_ok_weaker c.run_body.result (λ h. start_leaves c.args.p.now c.requires.typed c.args.class c.requires.quiet c.args.memory.now c.begin.new.self c.begin.ensures c.requires.places c.requires.own
    c.in-Some.method c.in-Some.body.now c.run_body.new.memory c.in-Some.ensures
    (subst (λ (p : Program). left_after p (before_end c.in-Some.body.now.code) (entered c.in-Some.method c.in-Some.body.now) c.begin.new.self ≡ c.run_body.new.memory) c.requires.tables h)) c.run_body.ensures.left
