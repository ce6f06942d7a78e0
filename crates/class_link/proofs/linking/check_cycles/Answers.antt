use Rattle.std.proofs.Common.{ap, subst}
use Rattle.class_link.specs.declared.link_environment.LinkEnvironment.{LinkEnvironment}
use Rattle.jvm_model.specs.declared.program.Program.{Program}
use Rattle.member_lookup.specs.Ancestors.{IsFirstCycle}
use Rattle.std.proofs.Common.{ℕ, Option, None}
use Rattle.class_link.proofs.LinkSteps.{skeleton_builtins, skeleton_few}
use Rattle.class_link.proofs.linking.check_cycles.Goals as goal

pub first_cycle-requires-clause-builtins : goal.first_cycle-requires-clause-builtins
first_cycle-requires-clause-builtins c = skeleton_builtins c.args.setting.now.program c.args.classes.now (ap (λ (s : LinkEnvironment). s.program) c.requires.setting)

pub first_cycle-requires-clause-few : goal.first_cycle-requires-clause-few
first_cycle-requires-clause-few c = skeleton_few c.args.setting.now.program c.args.classes.now (ap (λ (s : LinkEnvironment). s.program) c.requires.setting) c.requires.few

pub returns-in-None-clause-ok : goal.returns-in-None-clause-ok
returns-in-None-clause-ok c =
    let none : IsFirstCycle c.args.setting.now.program None = subst (λ (o : Option ℕ). IsFirstCycle c.args.setting.now.program o) c.in-None.is c.in_ok-first_cycle.ensures in
    subst (λ (p : Program). IsFirstCycle p None) (ap (λ (s : LinkEnvironment). s.program) c.requires.setting) none
