use Rattle.std.proofs.Common.{◌≡◌, ◌∙◌, ◌++◌, ◌+◌, ℕ, List, length, map, slice_get, Some, refl, sym, ap, arith}
use Rattle.order_law.specs.OwnRecord.{owner_in}
use Rattle.access_tags.specs.declared.ended.Ended.{Ended}
use Rattle.access_tags.specs.declared.rows.Row.{Row}
use Rattle.access_tags.specs.{FoundIn.edges_up_to, Rows.edge_by}
use Rattle.access_tags.proofs.Finding.{entry_there, edges_more}
use Rattle.access_tags.proofs.found.edges_of.Goals as goal

pub loop-i-init : goal.loop-i-init
loop-i-init c = record {
  printed = rw c.in_ok-edges.ensures refl;
  edges = λ kept T a. c.in_ok-edges.ensures;
}

pub loop-i-preserved : goal.loop-i-preserved
loop-i-preserved c =
    let p = c.args.p.now in
    let by = owner_in c.args.made.now in
    let names = c.args.names.now in
    let i = c.loop-i.i in
    let x = c.index-ended-i.result in
    let there : slice_get c.args.ended.now i ≡ Some x = entry_there c.args.ended.now i x c.loop-i-test.true ∙ ap (λ (y : Ended). Some y) (sym c.index-ended-i.is) in
    record {
      printed = c.in_ok-push_edges.ensures.form c.loop-i.invariant.printed;
      edges = λ kept T a. edges_more p T by names i x c.loop-i.edges c.push_edges.new.edges (a.each i x there) (c.loop-i.invariant.edges kept T a)
          (c.in_ok-push_edges.ensures.edges ∙ (ap (λ (rs : List Row). c.loop-i.edges ++ map (edge_by p by names (i + 1)) rs) c.as_slice-rows.ensures
          ∙ ap (λ (y : Ended). c.loop-i.edges ++ map (edge_by p by names (i + 1)) y.rows) (sym c.index-ended-i.is)));
    }

pub returns-clause-edges : goal.returns-clause-edges
returns-clause-edges c kept T a =
    let p = c.args.p.now in
    let by = owner_in c.args.made.now in
    let n = length c.args.ended.now in
    let all : c.loop-i.i ≡ n = omega (arith, c.loop-i-test.false, c.loop-i.auto.i-end) in
    edges_more p T by c.args.names.now n c.args.last.now c.loop-i.edges c.push_edges-2.new.edges a.last (c.loop-i.invariant.edges kept T a ∙ ap (λ (k : ℕ). edges_up_to p T by k) all)
    (c.in_ok-push_edges-2.ensures.edges ∙ ap (λ (rs : List Row). c.loop-i.edges ++ map (edge_by p by c.args.names.now (n + 1)) rs) c.as_slice-rows-2.ensures)

pub returns-clause-printed : goal.returns-clause-printed
returns-clause-printed c = c.in_ok-push_edges-2.ensures.form c.loop-i.invariant.printed
