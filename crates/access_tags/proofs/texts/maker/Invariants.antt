use Rattle.std.proofs.Common.{◌≡◌, ◌+◌, drop}
use Rattle.jvm_model.specs.Texts as texts
use Rattle.access_tags.proofs.texts.maker.Given as goal

abbrev pub invariant-loop-count : goal.invariant-loop-count
invariant-loop-count l = (l.test ≡ l.count-index + 1) × (texts.maker 1 l.made l.object ≡ texts.maker l.test (drop l.count-index l.made) l.before)
