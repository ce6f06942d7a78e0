use Rattle.std.proofs.Common.{◌≡◌, ◌<◌, ◌∙◌, length, arith}
use Rattle.access_tags.specs.Followed.{numbering_in}
use Rattle.access_tags.proofs.PartNotes.{all_fields, fields_noted}
use Rattle.access_tags.proofs.noting.note_fields.Goals as goal

pub loop-field-preserved : goal.loop-field-preserved
loop-field-preserved c =
    let v = c.loop-field.invariant in let r = c.in_ok-note_new.ensures.room in
    let l : c.loop-field.field-index < length c.args.fields.now = omega arith in
    record {
      room = record { cells = r.cells ∙ v.room.cells; named = r.named ∙ v.room.named };
      told = λ w names i h e. fields_noted w names c.args.numbers.now c.args.tags.now c.loop-field.tags c.note_new.new.tags c.args.object c.loop-field.field-index c.args.fields.now _ l
          c.in_ok-note_new.ensures.told i h e (v.told w names i h e);
    }

pub returns-clause-told : goal.returns-clause-told
returns-clause-told c w names i h e =
    let q : c.loop-field.field-index ≡ length c.args.fields.now = omega (arith, c.loop-field-test.false, c.loop-field.auto.field-index-end) in
    all_fields (numbering_in w names) c.args.tags.now c.loop-field.tags c.args.object c.loop-field.field-index c.args.fields.now q (c.loop-field.invariant.told w names i h e)
