use Rattle.std.proofs.Common.{◌≡◌, ◌∙◌, ◌++◌, ℕ, List, length, slice_get, Some, sym, ap, subst, arith}
use Rattle.order_law.specs.{OwnRecord.owner_in, Pairing.PairedList, Pairing.no_more, Walk.IsShownIn}
use Rattle.access_tags.specs.declared.conflict.LocationKey.{LocationKey}
use Rattle.access_tags.specs.declared.ended.Ended.{Ended}
use Rattle.access_tags.specs.declared.rows.Row.{Row}
use Rattle.access_tags.specs.{FoundIn.edges_up_to, Places.shown_rows}
use Rattle.access_tags.proofs.Finding.{entry_there, shown_more}
use Rattle.access_tags.proofs.found.shown_of_edges.Goals as goal

pub loop-test-init : goal.loop-test-init
loop-test-init c T a n w h = rw c.new-shown.ensures no_more

pub loop-test-preserved : goal.loop-test-preserved
loop-test-preserved c T a n w h =
    let p = c.args.p.now in
    let by = owner_in c.args.made.now in
    let names = c.args.names.now in
    let i = c.loop-test.test-index in
    let x = c.test-item.result in
    let there : slice_get c.args.ended.now i ≡ Some x = entry_there c.args.ended.now i x c.loop-test-test.true ∙ ap (λ (y : Ended). Some y) (sym c.test-item.is) in
    shown_more p T by names i x c.loop-test.shown c.push_shown.new.shown n w (omega (arith, h, c.loop-test-test.true)) (a.each i x there) (c.loop-test.invariant T a n w h)
    (c.in_ok-push_shown.ensures ∙ (ap (λ (rs : List Row). c.loop-test.shown ++ shown_rows p by names rs c.as_slice.result.now) c.as_slice-rows.ensures
    ∙ ap (λ (ws : List (List (List LocationKey))). c.loop-test.shown ++ shown_rows p by names x.rows ws) c.as_slice.ensures))

pub returns : goal.returns
returns c T a n w h =
    let p = c.args.p.now in
    let by = owner_in c.args.made.now in
    let names = c.args.names.now in
    let x = c.args.last.now in
    let k = length c.args.ended.now in
    let all : c.loop-test.test-index ≡ k = omega (arith, c.loop-test-test.false, c.loop-test.auto.test-index-end) in
    shown_more p T by names k x c.loop-test.shown c.push_shown-2.new.shown n w h a.last
    (subst (λ (j : ℕ). PairedList (IsShownIn p T by) (edges_up_to p T by j) c.loop-test.shown) all (c.loop-test.invariant T a n w h))
    (c.in_ok-push_shown-2.ensures ∙ (ap (λ (rs : List Row). c.loop-test.shown ++ shown_rows p by names rs c.as_slice-2.result.now) c.as_slice-rows-2.ensures
    ∙ ap (λ (ws : List (List (List LocationKey))). c.loop-test.shown ++ shown_rows p by names x.rows ws) c.as_slice-2.ensures))
