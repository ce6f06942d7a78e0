use Rattle.std.proofs.Common.{◌∙◌}
use Rattle.quiet_init.proofs.{Finished.few_flags, Lists.quiet_numbers}
use Rattle.quiet_init.proofs.program.quiet_lists.Goals as goal

pub flagged-requires : goal.flagged-requires
flagged-requires c = record { few = few_flags c.args.p.now c.as_slice.result.now c.requires.typed.linked (c.as_slice.ensures ∙ c.in_ok-flags.ensures.flags) }

pub returns-clause-classes : goal.returns-clause-classes
returns-clause-classes c = quiet_numbers c.args.p.now c.as_slice.result.now c.in_ok-classes.classes (c.as_slice.ensures ∙ c.in_ok-flags.ensures.flags) c.in_ok-classes.ensures
