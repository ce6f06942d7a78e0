use Rattle.std.proofs.Common.{Ok, arith, refl}
use Rattle.electrictest.specs.declared.words.Command.TheVariants as command
use Rattle.electrictest.specs.Detections.{IsFound, dependences}
use Rattle.electrictest.proofs.{Answering.loaded_answers, AskedFor.may_pass}
use Rattle.electrictest.proofs.detections.deps_for.Goals as goal

pub returns : goal.returns
returns g c = λ a depot e.
    loaded_answers (command.Deps c.args.json) a c.args.loaded.now e depot depot (λ files may. may) (omega arith) c.args.steps.now c.deps_report.new.steps (λ x. IsFound x (dependences c.args.json)) c.deps_report.result refl (λ files passed text units is. is) (λ files f is. is)
    (λ passed text units is. may_pass (Ok (command.Deps c.args.json)) passed refl is.ends) c.deps_report.ensures.reports c.deps_report.ensures.refused
