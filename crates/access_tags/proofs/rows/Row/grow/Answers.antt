use Rattle.std.proofs.Common.{◌≡◌, ◌++◌, ◌∷◌, [], List, length, arith, sym, ◌∙◌, ap, subst, ◌+◌}
use Rattle.access_tags.specs.declared.rows.Row.{Row}
use Rattle.access_tags.specs.Rows.{IsTable}
use Rattle.access_tags.proofs.Tally.{table_grown, three_longer}
use Rattle.access_tags.proofs.rows.Row.grow.Goals as goal

pub loop-earlier-preserved : goal.loop-earlier-preserved
loop-earlier-preserved c =
    let rs = c.loop-earlier.rows.items in
    let t = c.loop-earlier.earlier in
    let x = c.none.result in
    let y = c.none-in-loop-earlier.result in
    let z = c.none-in-loop-earlier-2.result in
    let e : c.push-in-loop-earlier-2.new.self.items ≡ ((rs ++ x ∷ []) ++ y ∷ []) ++ z ∷ [] =
    c.in_ok-push-3.ensures.items ∙ ap (λ (ys : List Row). ys ++ z ∷ []) (c.in_ok-push-2.ensures.items ∙ ap (λ (ys : List Row). ys ++ y ∷ []) c.in_ok-push.ensures.items) in
    let l = ap (λ (ys : List Row). length ys) e ∙ three_longer rs x y z in (
      omega (arith, c.loop-earlier.invariant.0),
      λ f. subst (λ (ys : List Row). IsTable (t + 1) [] ys) (sym e) (table_grown t rs x y z c.loop-earlier.invariant.0 (c.loop-earlier.invariant.1 f) c.none.ensures c.none-in-loop-earlier.ensures c.none-in-loop-earlier-2.ensures),
    )
