use Rattle.std.proofs.Common.{◌≡◌, take}
use Rattle.class_link.proofs.text_set.TextSet.contents.Given as goal

abbrev pub invariant-loop-text : goal.invariant-loop-text
invariant-loop-text l = l.made ≡ take l.text-index l.texts
