-- The type keeps it, for at most 1,024 tests.
use Rattle.std.proofs.Common.{List, sym, subst, arith, ◌≤◌}
use Rattle.order_law.specs.{declared.edges.Edge.Edge, Conflicts.HasEdge}
use Rattle.dep_graph.proofs.graph.Graph.goes_up.Goals as goal

pub returns : goal.returns
returns c = λ k u t h.
    let p = c.self.invariant.go_up k u t (subst (λ (R : List Edge). HasEdge R k u t) (sym c.self.view_is) h) in
    let below : t ≤ c.self.invariant.tests = p.2 in
    let few : c.self.invariant.tests ≤ 1024 = c.self.invariant.few in
    (p.0, p.1, omega arith)
