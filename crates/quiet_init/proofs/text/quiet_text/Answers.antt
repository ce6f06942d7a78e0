use Rattle.std.proofs.Common.{◌≡◌, ◌∙◌, List, ℕ}
use Rattle.std.proofs.lemmas.Result.{IfOk-weaker}
use Rattle.quiet_init.specs.{Quiet.quiet_classes, QuietText.text_of}
use Rattle.quiet_init.proofs.text.quiet_text.Goals as goal

pub returns : goal.returns
returns c = IfOk-weaker c.text_of.result (λ (t : List ℕ). t ≡ text_of c.program.result.now c.as_slice.result.now) (λ (t : List ℕ). t ≡ text_of c.args.p.now (quiet_classes c.args.p.now))
    (λ t e. e ∙ (λ i. text_of (c.program.ensures.same i) ((c.as_slice.ensures ∙ c.in_ok-classes.ensures) i))) c.text_of.ensures
