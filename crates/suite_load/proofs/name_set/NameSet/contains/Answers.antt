use Rattle.std.proofs.Common.{◌∙◌, sym, ap}
use Rattle.std.specs.{List.list_any, Str.bytes_eq}
use Rattle.suite_load.proofs.SetLaws.{any_map}
use Rattle.suite_load.proofs.name_set.NameSet.contains.Goals as goal

pub returns : goal.returns
returns c =
    c.contains.ensures ∙ sym (any_map (λ v. v.items) (bytes_eq c.args.name.now) c.self.inside.names.keys)
    ∙ ap (list_any (bytes_eq c.args.name.now)) c.self.view_is
