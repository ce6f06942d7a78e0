use Rattle.std.proofs.Common.{◌-◌, ◌∙◌, sym, arith, length, drop}
use Rattle.std.proofs.lemmas.List.{length-take, length-drop}
use Rattle.et_base.proofs.{Utf8Laws.utf8_of-pair, Utf8Laws.utf8_of-lone, utf8.first_char.Goals.in_default, utf8.first_char.Goals.in-len1-up-rest+else-is_pair}
use Rattle.et_base.proofs.utf8.first_char.Goals as goal

pub returns-then-is_pair-clause-first : goal.returns-then-is_pair-clause-first
returns-then-is_pair-clause-first c = rw c.pair_char.ensures (utf8_of-pair c.args.units.now (grind arith) (sym c.is_pair.ensures ∙ c.if-is_pair.true))

pub returns-after-rest-lt1-clause-first : goal.returns-after-rest-lt1-clause-first
returns-after-rest-lt1-clause-first c = rw c.lone_char.ensures (utf8_of-lone c.args.units.now (grind arith) (λ long. elim c.if-rest-lt1.branch [
  | in_default w ↦ absurd (omega (arith, w.in_default.len_below, length-take (length c.args.units.now - 1) (drop 1 c.args.units.now), length-drop 1 c.args.units.now))
  | in-len1-up-rest+else-is_pair w ↦ sym w.is_pair.ensures ∙ w.if-is_pair.false
]))
