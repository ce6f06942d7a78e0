use Rattle.std.proofs.Common.{◌≡◌, ◌∙◌, ℕ, List, length, subst, sym, ap, refl}
use Rattle.jvm_model.specs.declared.values.Location.TheVariants as place
use Rattle.jvm_model.specs.declared.values.Value.{Value}
use Rattle.jvm_model.specs.Access.{elems_made, fields_made, write_of}
use Rattle.jvm_model.specs.{Classes.blank, Classes.fields_of, View.keys, World.Object}
use Rattle.access_tags.specs.Followed.{HaveNoted, numbering_in}
use Rattle.access_tags.proofs.PartNotes.{blank_parts, made_noted}
use Rattle.access_tags.proofs.noting.note_made.Goals as goal

pub returns-clause-told : goal.returns-clause-told
returns-clause-told c w names i h e =
    let n = numbering_in w names in
    let x = blank c.args.numbers.now.places c.args.head in
    let b = blank_parts c.args.numbers.now.places c.args.head in
    let y : c.fields.result.now ≡ x.fields = c.fields.ensures ∙ (ap (λ p. fields_of p c.args.head.kind) i.layouts ∙ sym b.3) in
    let f = c.in_ok-note_fields.ensures.told w names i h (ap (λ (z : Object). keys z.fields) e ∙ ap keys (sym y)) in
    let g = c.in_ok-note_elems.ensures.told w names i h (ap (λ (z : Object). length z.elems) e ∙ (b.1 ∙ sym c.elements.ensures)) in
    made_noted n c.args.tags.now c.note_new.new.tags c.note_fields.new.tags c.note_elems.new.tags c.args.object x b.2
    (c.in_ok-note_new.ensures.told w names (write_of (place.Head c.args.object)) i refl h refl refl)
    (subst (λ (xs : List (ℕ × Value)). HaveNoted n c.note_new.new.tags c.note_fields.new.tags (fields_made c.args.object xs)) y f)
    (subst (λ (xs : List Value). HaveNoted n c.note_fields.new.tags c.note_elems.new.tags (elems_made c.args.object 0 xs)) (ap (λ (z : Object). z.elems) e) g)
