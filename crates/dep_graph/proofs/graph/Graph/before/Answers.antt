-- Past the rows nothing is before.
use Rattle.std.proofs.Common.{List, length, sym, subst, arith, ◌≤◌, ◌+◌}
use Rattle.std.proofs.lemmas.Bool.{false≢true, ltb-false}
use Rattle.order_law.specs.{declared.edges.Edge.Edge, Conflicts.Before}
use Rattle.dep_graph.specs.declared.sets.TestSet.{TestSet}
use Rattle.dep_graph.proofs.RowLaws.{past_rows}
use Rattle.dep_graph.proofs.graph.Graph.before.Goals as goal

pub returns-in-None : goal.returns-in-None
returns-in-None c =
    let past = ltb-false c.args.t (length c.deref.result.now) (sym c.in-None.ensures.lookup.0) in
    let over : length c.self.inside.rows.items ≤ c.args.t = subst (λ (xs : List TestSet). length xs ≤ c.args.t) c.deref.ensures.value past in
    (λ h. absurd (false≢true h), λ b. absurd (past_rows (c.self.invariant.tests + 1) c.self.inside.edges.value c.self.inside.rows.items c.args.u c.args.t c.self.invariant.rows_are over (subst (λ (R : List Edge). Before R c.args.u c.args.t) (sym c.self.view_is) b)))
