use Rattle.std.proofs.Common.{◌≡◌, ◌∙◌, Ok, refl, rules, sym}
use Rattle.electrictest.specs.declared.words.Command.TheVariants as command
use Rattle.electrictest.specs.GeneratedAnswers.{Summed}
use Rattle.electrictest.proofs.{AskedFor.of_this_alone, GeneratedLaws.summary_answers}
use Rattle.electrictest.proofs.threaded.asked_text.Goals as goal

pub returns-in-Ok-Gen-clause-answers : goal.returns-in-Ok-Gen-clause-answers
returns-in-Ok-Gen-clause-answers g c =
    let k = c.in-Ok-Gen.tests in
    let n = c.in-Ok-Gen.workers in
    let gen : c.command.result ≡ Ok (command.Gen k n) = search rules in
    summary_answers c.args.ask.now (g.D.Depot.shown c.args.depot.now) k n c.args.steps.now c.summary_for.new.steps c.summary_for.result (sym c.command.ensures.command ∙ gen) c.summary_for.ensures.reports c.summary_for.ensures.refused

pub returns-in-Ok-Gen-clause-generated : goal.returns-in-Ok-Gen-clause-generated
returns-in-Ok-Gen-clause-generated g c =
    let k = c.in-Ok-Gen.tests in
    let n = c.in-Ok-Gen.workers in
    let gen : c.command.result ≡ Ok (command.Gen k n) = search rules in
    let depot = g.D.Depot.shown c.args.depot.now in
    of_this_alone (λ j m. Summed j m c.summary_for.result depot depot c.args.steps.now c.summary_for.new.steps) c.args.ask.now.command k n (sym c.command.ensures.command ∙ gen)
    (record { sums = c.summary_for.ensures.reports; unsummed = c.summary_for.ensures.refused; untouched = refl })
