use Rattle.std.proofs.Common.{◌≡◌, ◌<◌, ℕ, List, length, get_or, Some, filter, sym, ◌∙◌, ap, arith}
use Rattle.std.specs.List.{range_with_len}
use Rattle.std.proofs.lemmas.Option.{slice_get-get_or, get_or_from_slice_get}
use Rattle.order_law.specs.declared.records.Reach.{Reach}
use Rattle.impact_pick.specs.Pick.{no_reach, is_picked, picked}
use Rattle.impact_pick.proofs.Next.{next_listed, next_after}
use Rattle.impact_pick.proofs.picking.picked.Goals as goal

-- src/picking.rt:36:5
pub loop-i-preserved : goal.loop-i-preserved
loop-i-preserved c =
    let m = c.args.m.now in
    let r = c.index-as_slice-i.result in
    let i = c.loop-i.i in
    let w : i < length m.reach = (let a = c.loop-i-test.true in let b = c.len-i-end.ensures in omega arith) in
    let is : r ≡ get_or m.reach i r = c.index-as_slice-i.is ∙ ap (λ (l : List Reach). get_or l i r) c.as_slice.ensures in
    let at = get_or_from_slice_get m.reach i r no_reach (slice_get-get_or m.reach i r w ∙ ap (λ (z : Reach). Some z) (sym is)) in (
      next_listed m c.args.p.now c.args.prints.now i r at c.loop-i.tests c.loop-i.after c.is_hit-hit.result c.puts_out-puts.result c.loop-i.invariant.0 c.loop-i.invariant.1 c.is_hit-hit.ensures c.puts_out-puts.ensures c.is_again-again.result c.push_where.new.list c.is_again-again.ensures c.in_ok-push_where.ensures,
      next_after m c.args.p.now c.args.prints.now i r at c.loop-i.tests c.loop-i.after c.is_hit-hit.result c.puts_out-puts.result c.loop-i.invariant.0 c.loop-i.invariant.1 c.is_hit-hit.ensures c.puts_out-puts.ensures c.either-after.result c.either-after.ensures,
    )

-- src/picking.rt:26:1
pub returns : goal.returns
unfolding picked
returns c =
    let e : c.loop-i.i ≡ length c.args.m.now.reach = (let a = c.len-i-end.ensures in let b = c.loop-i-test.false in let d = c.loop-i.auto.i-end in omega arith) in
    c.loop-i.invariant.0 ∙ ap (λ (k : ℕ). filter (is_picked c.args.m.now c.args.p.now c.args.prints.now) (range_with_len 1 k)) e
