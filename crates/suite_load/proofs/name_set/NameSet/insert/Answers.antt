use Rattle.std.proofs.Common.{◌≡◌, ℕ, List, false, ◌∙◌, ap, map, ◌++◌, ◌∷◌, []}
use Rattle.std.specs.{List.list_any, Str.bytes_eq}
use Rattle.suite_load.proofs.SetLaws.{name_goes_last}
use Rattle.suite_load.proofs.name_set.NameSet.insert.Goals as goal

pub returns : goal.returns
returns c =
    let key = c.in_ok-from_slice.field-0 in
    let old = c.self.inside.names.keys in
    let named = c.in_ok-from_slice.ensures.items in
    let new : list_any (bytes_eq key.items) (map (λ v. v.items) old) ≡ false = rw (named, c.self.view_is) c.requires in
    ap (map (λ v. v.items)) c.in_ok-insert.ensures.keys ∙ name_goes_last (λ v. v.items) old key new
    ∙ ap (λ (ns : List (List ℕ)). ns ++ key.items ∷ []) c.self.view_is ∙ ap (λ n. c.args.self.now ++ n ∷ []) named
