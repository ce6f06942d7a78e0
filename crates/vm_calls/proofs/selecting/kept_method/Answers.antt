use Rattle.std.proofs.Common.{◌≡◌, ◌∙◌, ap, refl, subst, [], filter, flat_map, nat_eq}
use Rattle.indexmap.specs.IndexSet.{insert_all}
use Rattle.jvm_model.specs.{declared.program.Program.Program, Classes.class_at, Selection.is_open_like, Selection.one_with_code}
use Rattle.member_lookup.specs.Walks.{is_kept}
use Rattle.vm_calls.specs.Choices.{above_of}
use Rattle.vm_calls.proofs.Choosing.{kept_is}
use Rattle.vm_calls.proofs.selecting.kept_method.Goals as goal

pub returns : goal.returns
returns c =
    let p = c.args.tables.now in
    let found = subst (λ (q : Program). c.in_ok-found.found ≡ flat_map (λ i. filter (λ n. is_open_like q c.args.method n) (class_at q i).methods) c.interfaces.result.now) c.program.ensures c.in_ok-found.ensures in
    c.one_with_code.ensures
    ∙ (ap one_with_code c.as_slice-2.ensures
    ∙ kept_is p c.args.method c.args.class c.interfaces.result.now c.in_ok-found.found _ c.in_ok-kept.kept c.interfaces.ensures found refl
    (c.in_ok-kept.ensures ∙ ap (λ xs. filter (λ n. is_kept p (insert_all nat_eq [] (flat_map (λ m. above_of p m) xs)) n) xs) c.as_slice.ensures))
