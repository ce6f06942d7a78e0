use Rattle.std.proofs.Common.{map, refl, ap, ◌∙◌}
use Rattle.jvm_model.specs.declared.outcome.Outcome.{Outcome}
use Rattle.test_run.specs.Running.{Machined}
use Rattle.detect_run.proofs.Detected.{own_run_on, units_counted}
use Rattle.detect_run.proofs.detection.ran_on.Goals as goal

pub returns-clause-program : goal.returns-clause-program
returns-clause-program g c = ap (λ (m : Machined _). m.program) c.in_ok-outcomes.ensures.after ∙ c.requires.program

pub returns-clause-ran : goal.returns-clause-ran
returns-clause-ran g c =
    let old = c.args.machine.now.memory in
    let outcomes = c.in_ok-outcomes in
    let units = c.in_ok-units.ensures ∙ ap (map (λ (o : Outcome). o.units)) c.as_slice.ensures in
    own_run_on c.args.p.now _ _ old c.run_suite.new.machine.memory outcomes.outcomes c.in_ok-units.units c.args.steps.now c.run_suite.new.steps outcomes.ensures.ran units
    old c.run_suite.new.machine.memory refl refl c.requires.world outcomes.ensures.within c.requires.follows

pub returns-clause-counted : goal.returns-clause-counted
returns-clause-counted g c =
    let outcomes = c.in_ok-outcomes in
    let units = c.in_ok-units.ensures ∙ ap (map (λ (o : Outcome). o.units)) c.as_slice.ensures in
    units_counted c.args.p.now _ _ c.args.machine.now.memory c.run_suite.new.machine.memory outcomes.outcomes c.in_ok-units.units c.args.steps.now c.run_suite.new.steps outcomes.ensures.ran units
