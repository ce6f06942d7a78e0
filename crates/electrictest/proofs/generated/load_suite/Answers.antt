use Rattle.std.proofs.Common.{◌≡◌, ◌∙◌, refl, subst, Ok, Err}
use Rattle.generated_law.specs.GeneratedSuite.{suite_files, suite_name}
use Rattle.suite_load.specs.LoadAnswers.{LoadAnswers}
use Rattle.electrictest.proofs.GeneratedLaws.{loaded_as, never_failed, unloaded_as}
use Rattle.electrictest.proofs.generated.load_suite.Goals as goal

pub returns-in-Ok-clause-loads : goal.returns-in-Ok-clause-loads
returns-in-Ok-clause-loads c =
    let same : c.load.new.depot ≡ suite_files c.args.tests = c.load.ensures.told c.load.new.depot refl ∙ c.in_ok-depot.ensures in
    let h : LoadAnswers (suite_files c.args.tests) suite_name (Ok c.in-Ok.loaded) = subst (λ files. LoadAnswers files suite_name (Ok c.in-Ok.loaded)) same
    (subst (λ name. LoadAnswers c.load.new.depot name (Ok c.in-Ok.loaded)) c.in_ok-name.ensures (c.in-Ok.ensures.loads c.load.new.depot refl)) in
    loaded_as c.load_law.ensures c.args.tests c.requires.few c.in-Ok.loaded h

pub returns-clause-refused : goal.returns-clause-refused
returns-clause-refused c =
    let same : c.load.new.depot ≡ suite_files c.args.tests = c.load.ensures.told c.load.new.depot refl ∙ c.in_ok-depot.ensures in
    let h : LoadAnswers (suite_files c.args.tests) suite_name (Err c.in-Err.fault) = subst (λ files. LoadAnswers files suite_name (Err c.in-Err.fault)) same
    (subst (λ name. LoadAnswers c.load.new.depot name (Err c.in-Err.fault)) c.in_ok-name.ensures (c.in-Err.ensures.loads c.load.new.depot refl)) in
    rw c.status_of.ensures (unloaded_as c.load_law.ensures c.args.tests c.requires.few _ c.in-Err.fault h c.in-Err.ensures.proper (λ read q. never_failed _ _ read refl refl q.1))
