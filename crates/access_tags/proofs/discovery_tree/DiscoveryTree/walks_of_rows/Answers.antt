use Rattle.std.proofs.Common.{List, subst}
use Rattle.order_law.specs.Pairing.{no_more}
use Rattle.access_tags.specs.declared.conflict.LocationKey.{LocationKey}
use Rattle.access_tags.specs.declared.rows.Row.{Row}
use Rattle.access_tags.specs.Paths.{AreRowWalks, AreWalks}
use Rattle.access_tags.proofs.Shows.{paired_more}
use Rattle.access_tags.proofs.discovery_tree.DiscoveryTree.walks_of_rows.Goals as goal

pub loop-row-init : goal.loop-row-init
loop-row-init c ts p m = rw c.new-walks.ensures no_more

pub loop-row-preserved : goal.loop-row-preserved
loop-row-preserved c ts p m =
    let r = c.row-item.result in
    let ws = c.in_ok-walks.field-0 in
    rw c.in_ok-push.ensures.pushed (paired_more (AreRowWalks ts) c.args.rows.now c.loop-row.row-index r c.loop-row.walks ws c.loop-row-test.true (c.loop-row.invariant ts p m)
    (subst (λ (x : Row). AreRowWalks ts x ws) c.row-item.is (subst (λ (xs : List LocationKey). AreWalks ts xs ws) c.as_slice.ensures (c.in_ok-walks.ensures ts p m))))
