use Rattle.std.proofs.Common.{◌≡◌, ◌+◌, ℕ, List, [], get_or, ◌∙◌, ap, subst, sym}
use Rattle.std.proofs.lemmas.Option.{IfSome_then}
use Rattle.jvm_model.specs.View.{Exists}
use Rattle.access_tags.specs.declared.conflict.LocationKey.{LocationKey}
use Rattle.access_tags.specs.declared.conflict.LocationKey.TheVariants as spot
use Rattle.access_tags.specs.{Numbering.located, Worlds.bases_of, Worlds.number_in}
use Rattle.access_tags.proofs.PartNotes.{field_number}
use Rattle.access_tags.proofs.numbers.Numbers.number.Goals as goal

pub returns-in-Field : goal.returns-in-Field
returns-in-Field c = IfSome_then c.field_part.result c.field_part.ensures (λ n e w i a h.
    let there = subst (λ (s : LocationKey). Exists w (located [] s)) c.in-Field.is h in
    let f = field_number w c.args.self.now c.in-Field.object c.in-Field.field c.place.result i there c.place.ensures in
    let g : n ≡ number_in w (located [] (spot.Field c.in-Field.object c.in-Field.field)) = e ∙ (ap (λ (ns : List ℕ). get_or ns c.in-Field.object 0 + (2 + c.place.result)) i.bases
    ∙ ap (λ (j : ℕ). get_or (bases_of w) c.in-Field.object 0 + (2 + j)) f) in
    subst (λ (s : LocationKey). n ≡ number_in w (located [] s)) (sym c.in-Field.is) g)
