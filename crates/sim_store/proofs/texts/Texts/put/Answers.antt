use Rattle.std.proofs.Common.{◌∙◌, ap, map}
use Rattle.std.specs.Str.{bytes_eq}
use Rattle.jvm_model.specs.World.{keep}
use Rattle.sim_store.specs.Stored.{named}
use Rattle.sim_store.proofs.Entries.{keep_named}
use Rattle.sim_store.proofs.texts.Texts.put.Goals as goal

pub returns-clause-put : goal.returns-clause-put
returns-clause-put c =
    ap (map named) c.in_ok-insert.ensures.entries
    ∙ keep_named c.self.inside.entries.entries c.into_vec.result c.args.content
    ∙ ap (λ n. keep bytes_eq (map named c.self.inside.entries.entries) n c.args.content) c.into_vec.ensures
    ∙ ap (λ xs. keep bytes_eq xs c.args.name c.args.content) c.self.view_is
