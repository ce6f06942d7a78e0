use Rattle.std.proofs.Common.{◌∙◌, ap, ℕ, List, length, map, arith}
use Rattle.run_core.specs.{Kept.row, Run.most_events}
use Rattle.run_core.proofs.Kept.{kept_first}
use Rattle.run_core.proofs.history.Core.new.Goals as goal

pub invariant_of-result : goal.invariant_of-result
invariant_of-result c =
    let sum = ap most_events c.as_slice.ensures in
    kept_first _ c.args.chains.lists c.args.workers _ _ _ _ c.args.chains.form
    (omega (arith, c.requires.few))
    (omega (arith, sum, c.count_events-events.ensures, c.in_ok-history.ensures.exact))
    (c.in_ok-rows.ensures ∙ ap (map (λ (c : List ℕ). row 0 0 (length c))) c.as_slice-2.ensures)
    c.in_ok-hands.ensures
    c.in_ok-history.ensures.items
