use Rattle.std.proofs.Common.{ℕ, List, [], ◌∷◌, ◌++◌, ◌∙◌, ap, sym, length}
use Rattle.jvm_model.specs.declared.values.Location.{Location}
use Rattle.sim_store.specs.declared.store.Part.{Part}
use Rattle.sim_store.specs.declared.store.Part.TheVariants as part
use Rattle.vm_mem.specs.Stores.{place_in}
use Rattle.access_tags.specs.Numbering.{position}
use Rattle.access_tags.proofs.NamesKept.{file_last, prop_last}
use Rattle.access_tags.proofs.names.Names.push.Goals as goal

pub invariant_of-self-in-File : goal.invariant_of-self-in-File
invariant_of-self-in-File c =
    let ls = c.args.self.now in
    let key = c.in_ok-key.ensures.items ∙ c.as_slice-2.ensures in
    let new = ap (λ (t : List ℕ). position ls (place_in part.File t)) key ∙ (ap (λ (x : Part). position ls (place_in x c.args.name.now)) (sym c.in-File.is) ∙ c.requires) in
    file_last c.self.inside.known.items ls c.push_reserved.new.self.items c.self.inside.files.entries c.self.inside.props.entries c.in_ok-key.key c.len-number.result c.in_ok-text.text c.self.view_is
    (c.in_ok-text.ensures ∙ c.as_slice.ensures ∙ sym key) (c.len-number.ensures ∙ (c.self.inside.known.ok.0 ∙ ap length c.self.view_is)) c.self.invariant c.insert.new.self.entries new
    (c.push_reserved.ensures.items ∙ ap (λ (zs : List Location). zs ++ place_in part.File c.in_ok-text.text ∷ []) c.in_ok-reserve.ensures.items) c.in_ok-insert-in-File.ensures.entries

pub invariant_of-self-in-Prop : goal.invariant_of-self-in-Prop
invariant_of-self-in-Prop c =
    let ls = c.args.self.now in
    let key = c.in_ok-key.ensures.items ∙ c.as_slice-2.ensures in
    let new = ap (λ (t : List ℕ). position ls (place_in part.Prop t)) key ∙ (ap (λ (x : Part). position ls (place_in x c.args.name.now)) (sym c.in-Prop.is) ∙ c.requires) in
    prop_last c.self.inside.known.items ls c.push_reserved-in-Prop.new.self.items c.self.inside.files.entries c.self.inside.props.entries c.in_ok-key.key c.len-number.result c.in_ok-text.text c.self.view_is
    (c.in_ok-text.ensures ∙ c.as_slice.ensures ∙ sym key) (c.len-number.ensures ∙ (c.self.inside.known.ok.0 ∙ ap length c.self.view_is)) c.self.invariant c.insert-in-Prop.new.self.entries new
    (c.push_reserved-in-Prop.ensures.items ∙ ap (λ (zs : List Location). zs ++ place_in part.Prop c.in_ok-text.text ∷ []) c.in_ok-reserve.ensures.items) c.in_ok-insert-in-Prop.ensures.entries
