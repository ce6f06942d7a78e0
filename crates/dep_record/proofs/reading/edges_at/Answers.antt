use Rattle.std.proofs.Common.{◌≡◌, ◌+◌, [], ◌∷◌, ◌++◌, length, refl, sym, ap, subst, arith}
use Rattle.std.proofs.lemmas.{List.length_push, Result.err_from_is_err_and}
use Rattle.dep_record.specs.RecordReading.{pieces, last_of}
use Rattle.dep_record.proofs.EdgeLaws.{edges_begin, edges_go_on, edges_end, edges_fail}
use Rattle.dep_record.proofs.EdgeCount.{IsCounted, edge_found, counted_more, few_counted}
use Rattle.dep_record.proofs.reading.edges_at.Goals as goal

pub loop-edges-init : goal.loop-edges-init
loop-edges-init c =
    let none : length c.new-edges.result ≡ 0 = ap length c.new-edges.ensures in
    record {
      same = edges_begin c.args.tests c.new-edges.result c.args.first (c.args.first + length c.new-edges.result) (pieces c.args.text.now) c.new-edges.ensures (omega arith);
      counted = subst (IsCounted c.args.tests) (sym c.new-edges.ensures) refl;
    }

pub returns-in_err-edge : goal.returns-in_err-edge
returns-in_err-edge c =
    let p = err_from_is_err_and c.from_residual.result c.from_residual.ensures.1 in
    let edges = c.loop-edges.edges in
    let step = rw c.as_slice.ensures at c.in_err-edge.ensures.gives in
    rw (p.1, p.2) (edges_fail c.args.tests edges (c.args.first + length edges) (pieces c.loop-edges.left.now) _ _ step c.loop-edges.invariant.same)

pub step_at-requires-clause-few : goal.step_at-requires-clause-few
step_at-requires-clause-few c =
    let same = ap length c.as_slice.ensures in
    let few = few_counted c.args.tests c.loop-edges.edges c.requires.tests c.loop-edges.invariant.counted in
    omega arith

pub loop-edges-preserved : goal.loop-edges-preserved
loop-edges-preserved c =
    let edges = c.loop-edges.edges in
    let edge = c.in-Some.edge in
    let found = rw c.as_slice.ensures at c.in_ok-edge.ensures.gives in
    let step = rw c.in-Some.is at found in
    let size = length_push edges edge in
    let good = edge_found c.args.tests (last_of edges) (c.args.first + length edges) (pieces c.loop-edges.left.now) (pieces c.in-Some.rest.now) edge step in
    record {
      same = rw c.in_ok-push.ensures.pushed
          (edges_go_on c.args.tests edges (c.args.first + length edges) (c.args.first + length (edges ++ edge ∷ [])) (pieces c.loop-edges.left.now) (pieces c.in-Some.rest.now) edge _ (omega arith) step c.loop-edges.invariant.same);
      counted = rw c.in_ok-push.ensures.pushed (counted_more c.args.tests edges edge c.requires.tests good.0 good.1 c.loop-edges.invariant.counted);
    }

pub returns : goal.returns
returns c =
    let edges = c.loop-edges.edges in
    let found = rw c.as_slice.ensures at c.in_ok-edge.ensures.gives in
    let step = rw c.in_default.is at found in
    edges_end c.args.tests edges (c.args.first + length edges) (pieces c.loop-edges.left.now) _ step c.loop-edges.invariant.same
