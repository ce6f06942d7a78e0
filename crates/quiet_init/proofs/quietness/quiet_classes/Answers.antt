use Rattle.std.proofs.Common.{◌≡◌, ◌∙◌, List, ℕ, false, filter, get_or, length, subst}
use Rattle.std.specs.List.{range_with_len}
use Rattle.std.proofs.lemmas.Result.{IfOk-weaker}
use Rattle.jvm_model.specs.declared.program.Program.{Program}
use Rattle.quiet_init.specs.Leaving.{AreFlags}
use Rattle.quiet_init.specs.Quiet as quiet
use Rattle.quiet_init.proofs.{Finished.few_flags, Lists.quiet_numbers}
use Rattle.quiet_init.proofs.quietness.quiet_classes.Goals as goal

pub flagged-requires : goal.flagged-requires
flagged-requires c = record { few = few_flags c.args.p.now c.as_slice.result.now c.program.ensures.typed.linked (c.as_slice.ensures ∙ subst (λ (q : Program). AreFlags q c.in_ok-flags.flags) c.program.ensures.same c.in_ok-flags.ensures) }

pub returns : goal.returns
returns c = IfOk-weaker c.flagged.result (λ (cs : List ℕ). cs ≡ filter (λ i. get_or c.as_slice.result.now i false) (range_with_len 0 (length c.as_slice.result.now))) (λ (cs : List ℕ). cs ≡ quiet.quiet_classes c.args.p.now)
    (λ cs e. quiet_numbers c.args.p.now c.as_slice.result.now cs (c.as_slice.ensures ∙ subst (λ (q : Program). AreFlags q c.in_ok-flags.flags) c.program.ensures.same c.in_ok-flags.ensures) e) c.flagged.ensures
