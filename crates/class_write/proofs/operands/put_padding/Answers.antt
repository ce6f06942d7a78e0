use Rattle.std.proofs.Common.{◌%◌, ◌++◌, ap, ◌∙◌, arith}
use Rattle.class_write.proofs.OperandLaw.{padded}
use Rattle.class_write.proofs.operands.put_padding.Goals as goal

pub returns : goal.returns
returns c = c.in_ok-extend_from_slice.ensures.items ∙ ap (λ z. c.args.out.now.items ++ z) (padded (c.args.pc % 4) (omega arith))
