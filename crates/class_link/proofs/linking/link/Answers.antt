use Rattle.std.proofs.Common.{◌≡◌, ◌∙◌, ℕ, List, Ok, ap, sym, subst, refl}
use Rattle.jvm_model.specs.declared.program.Program.{Program}
use Rattle.class_link.specs.Link.{setting, program_of, Links}
use Rattle.class_link.proofs.LinkSteps.{passes_on, names_said}
use Rattle.class_link.proofs.LinkLaw.{links_linked}
use Rattle.class_link.proofs.linking.link.Goals as goal

pub returns-in_err-setting-clause-links : goal.returns-in_err-setting-clause-links
returns-in_err-setting-clause-links c =
    let cs = c.args.classes.now in
    let lines = c.args.lines.now in
    let f = c.in_err-setting.field-0.0 in
    passes_on cs lines c.from_residual.result f c.from_residual.ensures.1 (names_said cs lines (setting cs) refl f c.in_err-setting.ensures.fault)

pub returns-in_err-targets-clause-links : goal.returns-in_err-targets-clause-links
returns-in_err-targets-clause-links c =
    let cs = c.args.classes.now in
    let lines = c.args.lines.now in
    passes_on cs lines c.from_residual-in_err-targets.result c.in_err-targets.field-0.0 c.from_residual-in_err-targets.ensures.1 c.in_err-targets.ensures.fault

pub returns-clause-links : goal.returns-clause-links
returns-clause-links c =
    let cs = c.args.classes.now in
    let lines = c.args.lines.now in
    let ts = c.in_ok-targets.tests in
    let made : c.in_ok-program.program ≡ program_of cs ts lines.files = c.in_ok-program.ensures ∙ ap (λ (xs : List (List ℕ × List ℕ)). program_of cs ts xs) c.as_slice-2.ensures in
    subst (λ (p : Program). Links cs lines (Ok p)) (sym made) c.in_ok-targets.ensures.program

pub returns-clause-linked : goal.returns-clause-linked
returns-clause-linked c = links_linked c.args.classes.now c.args.lines.now (Ok c.in_ok-program.program) c.requires.few c.know.ensures c.requires.lines (returns-clause-links c)
