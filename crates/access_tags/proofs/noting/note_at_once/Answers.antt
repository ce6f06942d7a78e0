use Rattle.std.proofs.Common.{◌+◌, ◌-◌, refl, arith}
use Rattle.std.proofs.lemmas.Result.{IfOk-weaker}
use Rattle.jvm_model.specs.World.{object_at}
use Rattle.access_tags.specs.declared.conflict.LocationKey.TheVariants as spot
use Rattle.access_tags.specs.Followed.{numbering_in}
use Rattle.access_tags.proofs.PartNotes.{placed}
use Rattle.access_tags.proofs.noting.note_at_once.Goals as goal

pub returns-in-Some-clause-told : goal.returns-in-Some-clause-told
returns-in-Some-clause-told c = IfOk-weaker c.note_elems.result _ _ (λ b f q w names i h e.
    let first = c.in-Some.ensures w i refl (h, omega (arith, e, c.if-elems-eq0.false)) in
    λ T t ts s. f q (numbering_in w names) T t ts (object_at w c.args.object).elems e
    (λ k l. placed w names (spot.Elem c.args.object k) (c.in-Some.at + (k - 0)) refl (h, omega (arith, e, l)) (omega (arith, first))) s) c.note_elems.ensures.stands
