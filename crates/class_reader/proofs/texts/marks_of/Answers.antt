use Rattle.std.proofs.Common.{◌∙◌, sym, ap, cond, Some, None}
use Rattle.std.specs.Option.{option_or}
use Rattle.class_reader.specs.Names.{is_text_of}
use Rattle.class_reader.proofs.TextLaw.{first_more, marks_more}
use Rattle.class_reader.proofs.texts.marks_of.Goals as goal

pub loop-i-preserved : goal.loop-i-preserved
loop-i-preserved c = (
  λ q. c.in_ok-first.ensures.noted q ∙ ap (λ o. option_or o (cond (is_text_of q c.index-slots-i.result) (Some c.loop-i.i) None)) (c.loop-i.invariant.0 q)
      ∙ sym (first_more c.args.slots.now c.loop-i.i c.index-slots-i.result q c.loop-i-test.true c.index-slots-i.is),
  c.in_ok-push.ensures.items ∙ marks_more c.args.slots.now c.loop-i.i c.index-slots-i.result c.loop-i.texts c.in_ok-first.first c.mark_with.result c.loop-i.marks.items c.loop-i-test.true c.index-slots-i.is
      c.loop-i.invariant.0 c.in_ok-first.ensures.first c.mark_with.ensures c.loop-i.invariant.1,
)
