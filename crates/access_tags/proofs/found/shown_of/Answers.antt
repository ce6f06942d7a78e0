use Rattle.std.proofs.Common.{◌∙◌, List, refl, ap, arith}
use Rattle.order_law.specs.OwnRecord.{owner_in}
use Rattle.order_law.specs.declared.records.Place.{Place}
use Rattle.access_tags.specs.Places.{place_by}
use Rattle.access_tags.proofs.Placed.{zipped_read, zipped_all}
use Rattle.access_tags.proofs.found.shown_of.Goals as goal

pub loop-i-preserved : goal.loop-i-preserved
loop-i-preserved c = rw c.in_ok-push.ensures.pushed (rw c.loop-i.invariant (rw c.in_ok-place_of.ensures (rw c.as_slice.ensures
    (zipped_read (place_by c.args.p.now (owner_in c.args.made.now) c.args.names.now) c.args.spots.now c.args.walks.now c.loop-i.i _ _ _ _ (omega (arith, c.loop-i-test.true, c.min-i-end.ensures)) (omega (arith, c.loop-i-test.true, c.min-i-end.ensures))
    refl c.index-walks-i.is))))

pub returns : goal.returns
returns c = ap (λ (ps : List Place). record { places = ps }) (c.loop-i.invariant ∙ zipped_all (place_by c.args.p.now (owner_in c.args.made.now) c.args.names.now) c.args.spots.now c.args.walks.now c.loop-i.i (omega (arith, c.loop-i-test.false, c.min-i-end.ensures)))
