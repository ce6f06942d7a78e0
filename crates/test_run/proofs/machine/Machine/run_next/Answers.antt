use Rattle.std.proofs.Common.{◌≡◌, ℕ, ap, subst, sym, ◌∙◌}
use Rattle.std.proofs.lemmas.Result.{err_from_is_err_and}
use Rattle.jvm_model.specs.{declared.program.Program.Program, State.test_at, Suite.one_test}
use Rattle.test_run.specs.Running.{IsRefused, Machined}
use Rattle.test_run.proofs.Lists.{none_before, one_before, ran_next}
use Rattle.test_run.proofs.machine.Machine.run_next.Goals as goal

pub returns-clause-ran : goal.returns-clause-ran
returns-clause-ran g c =
    let e : c.budget_of-budget.result ≡ (test_at c.args.self.now.program c.args.test).budget =
    c.budget_of-budget.ensures ∙ ap (λ (z : Program). (test_at z c.args.test).budget) (c.program.ensures.same ∙ ap (λ (m : Machined g.row.M.Denot). m.program) c.self.view_is) in
    let x = c.in_ok-outcome.ensures in
    ran_next g.M.Memory.world g.M.Memory.follows c.args.self.now.program c.args.self.now.memory c.run_bounded.new.self.memory c.args.test c.budget_of-budget.result c.in_ok-outcome.outcome c.args.outcomes.now c.push.new.self c.args.steps.now c.run_bounded.new.steps
    e x.gives c.in-Ok.ensures.pushed x.told x.counted

pub returns-in_err-outcome-clause-before : goal.returns-in_err-outcome-clause-before
returns-in_err-outcome-clause-before g c =
    let e : c.budget_of-budget.result ≡ (test_at c.args.self.now.program c.args.test).budget =
    c.budget_of-budget.ensures ∙ ap (λ (z : Program). (test_at z c.args.test).budget) (c.program.ensures.same ∙ ap (λ (m : Machined g.row.M.Denot). m.program) c.self.view_is) in
    let old = c.args.self.now in
    let f = c.in_err-outcome.field-0.0 in
    let x = c.in_err-outcome.ensures in
    let p = err_from_is_err_and c.from_residual.result c.from_residual.ensures.1 in
    rw (p.1, p.2) (none_before old.program (g.M.Memory.world old.memory) c.args.test c.args.steps.now c.run_bounded.new.steps f x.uncounted
    (subst (λ (b : ℕ). IsRefused old.program (g.M.Memory.world old.memory) c.args.test b f) e x.refused))

pub returns-in_default-clause-before : goal.returns-in_default-clause-before
returns-in_default-clause-before g c =
    let e : c.budget_of-budget.result ≡ (test_at c.args.self.now.program c.args.test).budget =
    c.budget_of-budget.ensures ∙ ap (λ (z : Program). (test_at z c.args.test).budget) (c.program.ensures.same ∙ ap (λ (m : Machined g.row.M.Denot). m.program) c.self.view_is) in
    let old = c.args.self.now in
    let x = c.in_ok-outcome.ensures in
    one_before old.program (g.M.Memory.world old.memory) c.args.test c.args.steps.now c.run_bounded.new.steps _
    (ap (λ (b : ℕ). one_test old.program (g.M.Memory.world old.memory) c.args.test b) (sym e) ∙ x.gives) x.counted
