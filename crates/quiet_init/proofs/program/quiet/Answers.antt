use Rattle.std.proofs.Common.{◌∙◌, ap}
use Rattle.quiet_init.specs.Quiet.{quiet_classes}
use Rattle.quiet_init.proofs.program.quiet.Goals as goal

pub returns : goal.returns
returns c = (c.hushed-checked.ensures, c.in_ok-flags.ensures.classes ∙ ap quiet_classes c.program.ensures.same)
