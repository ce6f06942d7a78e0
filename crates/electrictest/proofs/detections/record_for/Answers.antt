use Rattle.std.proofs.Common.{Ok, arith, refl}
use Rattle.electrictest.specs.declared.words.Command.TheVariants as command
use Rattle.electrictest.specs.Detections.{IsFound, recorded}
use Rattle.electrictest.proofs.{Answering.loaded_answers, AskedFor.may_pass}
use Rattle.electrictest.proofs.detections.record_for.Goals as goal

pub returns : goal.returns
returns g c = λ a depot e.
    loaded_answers command.Detect a c.args.loaded.now e depot depot (λ files may. may) (omega arith) c.args.steps.now c.record_report.new.steps (λ x. IsFound x recorded) c.record_report.result refl (λ files passed text units is. is) (λ files f is. is)
    (λ passed text units is. may_pass (Ok command.Detect) passed refl is.ends) c.record_report.ensures.reports c.record_report.ensures.refused
