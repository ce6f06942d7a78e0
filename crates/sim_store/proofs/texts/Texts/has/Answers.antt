use Rattle.std.proofs.Common.{◌∙◌, ap, sym}
use Rattle.std.specs.{List.list_any, Str.bytes_eq}
use Rattle.sim_store.proofs.Entries.{any_named}
use Rattle.sim_store.proofs.texts.Texts.has.Goals as goal

pub returns : goal.returns
returns c = c.contains_key.ensures ∙ sym (any_named c.args.name.now c.self.inside.entries.entries) ∙ ap (list_any (λ e. bytes_eq c.args.name.now e.0)) c.self.view_is
