use Rattle.std.proofs.Common.{◌≡◌, ◌≤◌, ◌++◌, drop, length, take, arith}
use Rattle.vm_tables.proofs.Laid.{entries_all, fields_within, noted_all, noted_more, written}
use Rattle.vm_tables.proofs.field_places.FieldPlaces.of.Goals as goal

pub note_places-requires : goal.note_places-requires
note_places-requires c =
    let t = c.loop-class-test.true in
    let e = c.len-class-end.ensures in
    let long : length c.deref_mut.result.now ≡ length c.args.p.now.fields = rw c.deref_mut.ensures.value c.loop-class.invariant.many in
    rw (c.as_slice.ensures, c.in_ok-fields.ensures, long) (fields_within c.args.p.now c.requires c.loop-class.class (omega arith))

pub loop-class-preserved : goal.loop-class-preserved
loop-class-preserved c =
    let t = c.loop-class-test.true in
    let e = c.len-class-end.ensures in
    let new = c.note_places.new.places in
    let rest = drop (length new) c.loop-class.places.items in
    let long : length new ≡ c.loop-class.places.len = omega arith in
    let whole : take c.loop-class.places.len (new ++ rest) ≡ new = written c.loop-class.places.len new rest long in
    let laid = rw (c.deref_mut.ensures.value, c.as_slice.ensures, c.in_ok-fields.ensures) at c.note_places.ensures in
    rw whole (record {
      many = omega (arith, c.loop-class.invariant.many);
      placed = noted_more c.args.p.now c.requires c.loop-class.class c.loop-class.places.items new (omega arith) laid c.loop-class.invariant.placed;
    })

pub invariant_of-result : goal.invariant_of-result
invariant_of-result c =
    let m = c.loop-class-test.false in
    let e = c.len-class-end.ensures in
    let n : length c.args.p.now.classes ≤ c.loop-class.class = omega arith in (
      noted_all c.args.p.now c.of.result.value c.loop-class.class c.loop-class.places.items c.of.ensures n c.loop-class.invariant.placed,
      entries_all c.args.p.now c.of.result.value c.loop-class.places.items c.requires c.of.ensures c.loop-class.invariant.many,
    )
