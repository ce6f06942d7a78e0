use Rattle.std.proofs.Common.{ℕ, List, length, sym, ap, subst, arith}
use Rattle.order_law.specs.declared.edges.Edge.{Edge}
use Rattle.cone_run.specs.Cones.{AreCones}
use Rattle.cone_run.proofs.ConeLists.{few_selected}
use Rattle.cone_run.proofs.cone_pool.run_cones.Goals as goal

pub new-requires-clause-selected : goal.new-requires-clause-selected
new-requires-clause-selected g c = ap (λ (l : List ℕ). length l) c.requires.selected

pub new-requires-clause-few : goal.new-requires-clause-few
new-requires-clause-few g c =
    let few = few_selected g.N.PoolName.program g.N.BookName.edges g.N.BookName.selected c.requires.suite in
    let same = ap (λ (l : List ℕ). length l) c.requires.selected in
    omega (arith, few, same)

pub post_cones-requires-clause-cones : goal.post_cones-requires-clause-cones
post_cones-requires-clause-cones g c κs within =
    subst (λ (z : List (List ℕ)). AreCones g.N.BookName.edges g.N.BookName.selected z) (sym c.as_slice-cones.ensures)
    (subst (λ (r : List Edge). AreCones r g.N.BookName.selected c.in_ok-lists.lists) c.requires.edges
    (subst (λ (z : List ℕ). AreCones c.args.g.now z c.in_ok-lists.lists) c.requires.selected c.in_ok-lists.ensures))

pub finish-pieces-requires-clause-cones : goal.finish-pieces-requires-clause-cones
finish-pieces-requires-clause-cones g c =
    subst (λ (z : List (List ℕ)). AreCones g.N.BookName.edges g.N.BookName.selected z) (sym c.as_slice-cones.ensures)
    (subst (λ (r : List Edge). AreCones r g.N.BookName.selected c.in_ok-lists.lists) c.requires.edges
    (subst (λ (z : List ℕ). AreCones c.args.g.now z c.in_ok-lists.lists) c.requires.selected c.in_ok-lists.ensures))
