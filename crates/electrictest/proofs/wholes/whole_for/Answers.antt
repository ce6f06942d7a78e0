use Rattle.std.proofs.Common.{Ok, arith, refl}
use Rattle.electrictest.specs.declared.words.Command.TheVariants as command
use Rattle.electrictest.specs.Wholes.{IsWholeReport}
use Rattle.electrictest.proofs.{Answering.loaded_answers, AskedFor.may_report}
use Rattle.electrictest.proofs.wholes.whole_for.Goals as goal

pub returns : goal.returns
returns g c = λ a depot e.
    loaded_answers command.Whole a c.args.loaded.now e depot depot (λ files may. may) (omega arith) c.args.steps.now c.whole_report.new.steps IsWholeReport c.whole_report.result refl (λ files passed text units is. is) (λ files f is. is)
    (λ passed text units is. may_report (Ok command.Whole) passed (command.Whole, refl, refl)) c.whole_report.ensures.reports c.whole_report.ensures.refused
