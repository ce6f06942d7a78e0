use Rattle.std.proofs.Common.{length}
use Rattle.dep_record.proofs.JsonLaws.{json_written}
use Rattle.dep_record.proofs.report_json.deps_json.Goals as goal

pub returns : goal.returns
returns c =
    let found = c.args.detected.now in
    let edges = rw (c.as_slice.ensures, c.as_slice-2.ensures) at c.in_ok-edges.ensures in
    let line = rw c.from_vec-out.ensures at c.in_ok-push.ensures.pushed in
    json_written c.args.names.now (length found.kept.units) _ found.kept.edges found.shown _ _ _ _ edges c.in_ok-report.ensures c.len.ensures c.in_ok-to_vec.ensures.text line
