use Rattle.std.proofs.Common.{sym}
use Rattle.dep_graph.proofs.Form.{ordered_at}
use Rattle.electrictest.proofs.manifests.manifest_of.Goals as goal

pub manifest-requires : goal.manifest-requires
manifest-requires g c =
    let r = c.args.begun.now.record in
    record { «record» = (ordered_at r.units r.edges r.form _ _ (sym c.requires.units) c.in_ok-graph.ensures).go_up }
