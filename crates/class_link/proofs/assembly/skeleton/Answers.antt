use Rattle.std.proofs.Common.{◌≡◌, ◌∙◌, ◌++◌, refl}
use Rattle.jvm_model.specs.Library.{builtin_classes, builtin_fields, builtin_methods}
use Rattle.class_link.specs.{ClassNames.all_names, Literals.literals, Assembly.class_recs, Assembly.field_recs, Assembly.method_recs, Assembly.bare_body}
use Rattle.class_link.proofs.AssemblyLaws.{skeleton_is}
use Rattle.class_link.proofs.assembly.skeleton.Goals as goal

pub returns : goal.returns
returns c =
    let cs = c.args.files.now in
    let classes : c.classes.inside.items.items ≡ builtin_classes ++ class_recs (all_names cs) 2 102 cs =
    c.classes.view_is ∙ c.in_ok-push_classes.ensures ∙ rw (c.requires.classes, c.requires.names) refl in
    let fields : c.fields-2.inside.items.items ≡ builtin_fields ++ field_recs (literals cs) 32 cs =
    c.fields-2.view_is ∙ c.in_ok-push_all_fields.ensures ∙ rw (c.requires.fields, c.requires.texts) refl in
    let methods : c.methods-2.inside.items.items ≡ builtin_methods ++ method_recs (λ _ code. bare_body code) 32 cs =
    c.methods-2.view_is ∙ c.in_ok-push_all_methods.ensures ∙ rw c.requires.methods refl in
    rw (classes, fields, methods, c.in_ok-contents.ensures, c.requires.texts, c.new.ensures, c.new-2.ensures) (skeleton_is cs)
