use Rattle.std.proofs.Common.{◌++◌, ◌∙◌, List, refl, ap, arith}
use Rattle.order_law.specs.OwnRecord.{owner_in}
use Rattle.order_law.specs.declared.records.Shown.{Shown}
use Rattle.access_tags.specs.Places.{shown_with}
use Rattle.access_tags.proofs.Placed.{zipped_on, zipped_all}
use Rattle.access_tags.proofs.found.push_shown.Goals as goal

pub loop-i-preserved : goal.loop-i-preserved
loop-i-preserved c =
    let r = c.index-rows-i.result in
    let ws = c.index-walks-i.result in
    rw c.in_ok-push.ensures.pushed (rw c.loop-i.invariant (rw c.in_ok-shown_of.ensures (rw c.as_slice.ensures (rw c.as_slice-spots.ensures
    (zipped_on (shown_with c.args.p.now (owner_in c.args.made.now) c.args.names.now) c.args.shown.now c.args.rows.now c.args.walks.now c.loop-i.i r _ ws ws (omega (arith, c.loop-i-test.true, c.min-i-end.ensures)) (omega (arith, c.loop-i-test.true, c.min-i-end.ensures))
    refl c.index-walks-i.is)))))

pub returns : goal.returns
returns c = c.loop-i.invariant ∙ ap (λ (zs : List Shown). c.args.shown.now ++ zs) (zipped_all (shown_with c.args.p.now (owner_in c.args.made.now) c.args.names.now) c.args.rows.now c.args.walks.now c.loop-i.i (omega (arith, c.loop-i-test.false, c.min-i-end.ensures)))
