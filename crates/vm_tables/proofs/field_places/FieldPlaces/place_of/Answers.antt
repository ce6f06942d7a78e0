use Rattle.std.proofs.Common.{ℕ, ◌<◌, ◌∙◌, length, subst, sym}
use Rattle.std.proofs.lemmas.List.{get_or_default}
use Rattle.jvm_model.specs.declared.program.Program.{Program}
use Rattle.vm_tables.specs.FieldPlaces.{IsHeld}
use Rattle.vm_tables.proofs.field_places.FieldPlaces.place_of.Goals as goal

pub index-requires : goal.index-requires
index-requires c =
    let w = c.self.invariant.1 c.args.field (subst (λ (p : Program). IsHeld p c.args.field) (sym c.self.view_is) c.requires) in
    subst (λ (n : ℕ). c.args.field < n) (sym c.self.inside.places.ok.0) w

pub returns : goal.returns
returns c =
    let places = c.self.inside.places.items in
    let w : c.args.field < length places = c.self.invariant.1 c.args.field (subst (λ (p : Program). IsHeld p c.args.field) (sym c.self.view_is) c.requires) in
    rw (← c.self.view_is) (λ k m. c.index.ensures ∙ get_or_default places c.args.field c.index.result.now 0 w ∙ c.self.invariant.0 c.args.field k m)
