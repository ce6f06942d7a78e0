use Rattle.std.proofs.Common.{◌+◌, ◌<◌, length, arith, length-set, ◌∙◌}
use Rattle.vm_tables.proofs.Places.{place_within, places_more}
use Rattle.vm_tables.proofs.numbers.numbers_of.Goals as goal

pub overflow_cast-i : goal.overflow_cast-i
overflow_cast-i c =
    let low : c.loop-i.i < length c.args.body.now.code = rw (← c.as_slice-placed-items.ensures) c.loop-i-test.true in
    let here = rw c.as_slice-placed-items.ensures at c.placed-item.is in
    let within = place_within c.args.body.now c.loop-i.i c.placed-item.result c.requires low here in
    omega (arith, within)

pub overflow_add-i : goal.overflow_add-i
overflow_add-i c =
    let low : c.loop-i.i < length c.args.body.now.code = rw (← c.as_slice-placed-items.ensures) c.loop-i-test.true in
    let here = rw c.as_slice-placed-items.ensures at c.placed-item.is in
    let within = place_within c.args.body.now c.loop-i.i c.placed-item.result c.requires low here in
    omega (arith, within)

pub loop-i-preserved : goal.loop-i-preserved
loop-i-preserved c =
    let low : c.loop-i.i < length c.args.body.now.code = rw (← c.as_slice-placed-items.ensures) c.loop-i-test.true in
    let here = rw c.as_slice-placed-items.ensures at c.placed-item.is in
    let within = place_within c.args.body.now c.loop-i.i c.placed-item.result c.requires low here in
    record {
      long = length-set c.loop-i.numbers.items c.placed-item.result.pc (c.loop-i.i + 1) ∙ c.loop-i.invariant.long;
      numbered = places_more 0 c.args.body.now.code c.loop-i.i c.placed-item.result c.loop-i.numbers.items c.requires.ascending low here (omega (arith, within, c.loop-i.invariant.long)) c.loop-i.invariant.numbered;
    }
