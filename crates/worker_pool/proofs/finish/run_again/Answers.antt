use Rattle.std.proofs.Common.{◌≡◌, ◌∙◌, ℕ, List, [], ◌∷◌, ◌++◌, None, ap, sym, subst}
use Rattle.std.specs.Result.{IfErr}
use Rattle.std.proofs.lemmas.Result.{IfOk-weaker}
use Rattle.jvm_model.specs.{declared.program.Program.Program, Suite.first_over}
use Rattle.worker_pool.specs.{Faults.IsRunFault, Plans.AreTests}
use Rattle.worker_pool.proofs.finish.run_again.Goals as goal

pub run_after-piece-requires-clause-tests : goal.run_after-piece-requires-clause-tests
run_after-piece-requires-clause-tests g c =
    let l = c.posts-list in
    subst (λ (p : Program). AreTests p l.result.now) (sym (c.in_ok-machine.ensures.0 ∙ c.requires.program)) (subst (λ (z : List ℕ). AreTests c.args.core.now.program z) (sym l.ensures) c.requires.tests)

pub run_after-piece-requires-clause-given : goal.run_after-piece-requires-clause-given
run_after-piece-requires-clause-given g c =
    let l = c.posts-list in
    subst (λ (p : Program). first_over p l.result.now ≡ None) (sym (c.in_ok-machine.ensures.0 ∙ c.requires.program)) (subst (λ (z : List ℕ). first_over c.args.core.now.program z ≡ None) (sym l.ensures) c.requires.given)

pub returns-clause-piece : goal.returns-clause-piece
returns-clause-piece g c =
    let m = c.in_ok-machine.ensures in
    let l = c.posts-list in
    IfOk-weaker c.run_after-piece.result _ _ (λ x h. (h.1 ∙ m.1, h.0 ∙ m.0 ∙ c.requires.program, h.2 ∙ ap (λ (z : List ℕ). z ++ (c.args.test ∷ [])) l.ensures)) c.run_after-piece.ensures.piece

pub returns-clause-fault : goal.returns-clause-fault
returns-clause-fault g c =
    let r = c.run_after-piece in
    let l = c.posts-list in
    subst (λ (z : List ℕ). IfErr r.result (IsRunFault c.args.core.now.program z c.args.test)) l.ensures
    (subst (λ (p : Program). IfErr r.result (IsRunFault p l.result.now c.args.test)) (c.in_ok-machine.ensures.0 ∙ c.requires.program) r.ensures.fault)
