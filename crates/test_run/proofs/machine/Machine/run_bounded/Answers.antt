use Rattle.std.proofs.Common.{◌≡◌, ◌≤◌, [], ◌∷◌, ◌++◌, IfSome, Some, false, sym, subst, ap, ◌∙◌}
use Rattle.jvm_model.specs.{declared.program.Program.Program, State.test_at, Suite.last_outcome, Suite.one_test}
use Rattle.type_frames.specs.TypedState.{TypedWorld}
use Rattle.test_run.specs.{Outcomes.given_in, Running.Machined}
use Rattle.test_run.proofs.After.{last_now, stands_now}
use Rattle.test_run.proofs.machine.Machine.run_bounded.Goals as goal

pub invariant_of-self-2 : goal.invariant_of-self-2
invariant_of-self-2 g c =
    let p = c.self.inside.checked.now in
    let ready : c.self.inside.spent ≡ false = ap (λ (m : Machined g.row.M.Denot). m.spent) c.self.view_is ∙ c.requires.ready in
    let within : c.args.budget ≤ (test_at p c.args.test).budget = subst (λ (z : Program). c.args.budget ≤ (test_at z c.args.test).budget) (sym (ap (λ (m : Machined g.row.M.Denot). m.program) c.self.view_is)) c.requires.within in
    let gives = subst (λ (z : Program). one_test z (g.M.Memory.world c.self.inside.memory) c.args.test c.args.budget ≡ given_in z c.args.test (g.M.Memory.world c.self.inside.memory) c.args.budget c.in_ok-given.given (g.M.Memory.world c.run_single.new.memory)) c.self.invariant.tables_of c.in_ok-given.ensures.gives in
    let left = subst (λ (z : Program). IfSome c.in_ok-given.given (λ x. TypedWorld z (g.M.Memory.world c.run_single.new.memory))) c.self.invariant.tables_of c.in_ok-given.ensures.left in
    record {
      tables_of = c.self.invariant.tables_of;
      selections_of = c.run_single.ensures.kept ∙ c.self.invariant.selections_of;
      memory_of = c.run_single.ensures.of ∙ c.self.invariant.memory_of;
      limits = c.self.invariant.limits;
      stands = λ _. stands_now g.M.Memory.world p c.self.inside.list c.self.inside.memory c.run_single.new.memory (c.self.invariant.stands ready) c.args.test c.args.budget c.in_ok-given.given c.in-Some.outcome within gives c.in-Some.is c.push.new.self c.in_ok-push.ensures.pushed left;
    }

pub returns-clause-last : goal.returns-clause-last
returns-clause-last g c =
    let p = c.self.inside.checked.now in
    let ready : c.self.inside.spent ≡ false = ap (λ (m : Machined g.row.M.Denot). m.spent) c.self.view_is ∙ c.requires.ready in
    let within : c.args.budget ≤ (test_at p c.args.test).budget = subst (λ (z : Program). c.args.budget ≤ (test_at z c.args.test).budget) (sym (ap (λ (m : Machined g.row.M.Denot). m.program) c.self.view_is)) c.requires.within in
    let gives = subst (λ (z : Program). one_test z (g.M.Memory.world c.self.inside.memory) c.args.test c.args.budget ≡ given_in z c.args.test (g.M.Memory.world c.self.inside.memory) c.args.budget c.in_ok-given.given (g.M.Memory.world c.run_single.new.memory)) c.self.invariant.tables_of c.in_ok-given.ensures.gives in
    subst (λ (m : Machined g.row.M.Denot). last_outcome m.program (m.list ++ (c.args.test ∷ [])) ≡ Some c.in-Some.outcome) c.self.view_is
    (last_now g.M.Memory.world p c.self.inside.list c.self.inside.memory c.run_single.new.memory (c.self.invariant.stands ready) c.args.test c.args.budget c.in_ok-given.given c.in-Some.outcome within gives c.in-Some.is)
