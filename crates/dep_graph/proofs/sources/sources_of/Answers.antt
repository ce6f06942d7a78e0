-- Each edge is the next one of an ordered record.
use Rattle.std.proofs.Common.{◌≡◌, ◌+◌, ◌≤◌, ◌<◌, ℕ, List, [], length, take, sym, subst, ap, ◌∙◌, arith, Vec, Global}
use Rattle.et_base.specs.declared.items.Items.{Items}
use Rattle.order_law.specs.declared.edges.{EdgeKind.EdgeKind, EdgeKind.TheVariants.Raw, EdgeKind.TheVariants.Waw, EdgeKind.TheVariants.War}
use Rattle.dep_graph.specs.Graphs.{AreSources}
use Rattle.dep_graph.proofs.{RowLaws.next_up, SourceLaws.sources_same, SourceLaws.sources_more}
use Rattle.dep_graph.proofs.sources.sources_of.Goals as goal
use Rattle.dep_graph.proofs.sources.sources_of.Goals.{in-Raw+in_ok-push_to-in-Raw, in-Waw, in-War}

waw_not_raw : (k : EdgeKind) → k ≡ Waw → k ≡ Raw → ⊥
waw_not_raw k a b = cc

war_not_raw : (k : EdgeKind) → k ≡ War → k ≡ Raw → ⊥
war_not_raw k a b = cc

pub push_to-requires : goal.push_to-requires
push_to-requires c =
    let p : c.edge-item.result.later ≤ c.args.tests = (next_up c.args.tests c.args.edges.now c.requires.ordered c.loop-edge.edge-index c.edge-item.result c.loop-edge-test.true c.edge-item.is).2 in
    let m : length c.loop-edge.lists.items ≡ c.args.tests + 1 = c.loop-edge.invariant.many in
    omega arith

pub loop-edge-preserved : goal.loop-edge-preserved
loop-edge-preserved c =
    let p : c.edge-item.result.later ≤ c.args.tests = (next_up c.args.tests c.args.edges.now c.requires.ordered c.loop-edge.edge-index c.edge-item.result c.loop-edge-test.true c.edge-item.is).2 in
    let within : c.edge-item.result.later < c.args.tests + 1 = omega arith in
    let as_before = sources_same c.args.tests (c.args.tests + 1) c.args.edges.now c.requires.ordered c.loop-edge.edge-index c.edge-item.result c.loop-edge-test.true c.edge-item.is c.loop-edge.lists.items c.loop-edge.invariant in
    elim c.match-edge.branch [
      | in-Raw+in_ok-push_to-in-Raw w ↦
          subst (λ (ls : List (List ℕ)). AreSources (c.args.tests + 1) (take (c.loop-edge.edge-index + 1) c.args.edges.now) ls)
          (sym (ap (λ (v : Vec (Items ℕ) Global). v.items) w.lists-is ∙ w.in_ok-push_to-in-Raw.ensures))
          (sources_more c.args.tests (c.args.tests + 1) c.args.edges.now c.requires.ordered c.loop-edge.edge-index c.edge-item.result c.loop-edge-test.true c.edge-item.is c.loop-edge.lists.items c.loop-edge.invariant w.in-Raw.is within)
      | in-Waw w ↦
          subst (λ (ls : List (List ℕ)). AreSources (c.args.tests + 1) (take (c.loop-edge.edge-index + 1) c.args.edges.now) ls)
          (sym (ap (λ (v : Vec (Items ℕ) Global). v.items) w.lists-is))
          (as_before (λ e. waw_not_raw c.edge-item.result.kind w.in-Waw.is e))
      | in-War w ↦
          subst (λ (ls : List (List ℕ)). AreSources (c.args.tests + 1) (take (c.loop-edge.edge-index + 1) c.args.edges.now) ls)
          (sym (ap (λ (v : Vec (Items ℕ) Global). v.items) w.lists-is))
          (as_before (λ e. war_not_raw c.edge-item.result.kind w.in-War.is e))
    ]
