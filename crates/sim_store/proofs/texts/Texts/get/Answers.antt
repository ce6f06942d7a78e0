use Rattle.std.proofs.Common.{◌∙◌, ap, sym, None}
use Rattle.std.specs.{Option.option_flatten, Str.bytes_eq}
use Rattle.jvm_model.specs.World.{look}
use Rattle.sim_store.proofs.Entries.{look_named, lent}
use Rattle.sim_store.proofs.texts.Texts.get.Goals as goal

pub returns-in-Some : goal.returns-in-Some
returns-in-Some c =
    let held = look_named c.args.name.now c.self.inside.entries.entries ∙ ap option_flatten (sym c.in-Some.ensures.value) in
    let found = ap (λ xs. look bytes_eq None xs c.args.name.now) (sym c.self.view_is) ∙ held in
    lent _ _ _ c.as_ref.ensures.value found

pub returns-in-None : goal.returns-in-None
returns-in-None c =
    let held = look_named c.args.name.now c.self.inside.entries.entries ∙ ap option_flatten (sym c.in-None.ensures.value) in
    ap (λ xs. look bytes_eq None xs c.args.name.now) (sym c.self.view_is) ∙ held
