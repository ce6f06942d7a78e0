use Rattle.class_link.proofs.TextLaws.{none_placed}
use Rattle.class_link.proofs.text_set.TextSet.new.Goals as goal

pub invariant_of-result : goal.invariant_of-result
invariant_of-result c = rw c.new.ensures.items (none_placed c.new-2.result c.new-2.ensures.empty)
