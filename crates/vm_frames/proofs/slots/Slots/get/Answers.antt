use Rattle.std.proofs.Common.{◌≡◌, ◌<◌, ◌^◌, get_or, arith}
use Rattle.std.specs.Int.{w32, w64, cast_signed}
use Rattle.std.proofs.lemmas.Int.{ints}
use Rattle.jvm_model.specs.declared.values.Value.TheVariants.{Int, Long, Null}
use Rattle.vm_frames.specs.declared.slots.Tag.TheVariants.{OfInt, OfLong, OfNull, OfLit, OfObj}
use Rattle.vm_frames.proofs.Kept.{value_read, fit_read}
use Rattle.vm_frames.proofs.slots.Slots.get.Goals as goal

pub overflow_cast-bits : goal.overflow_cast-bits
overflow_cast-bits c =
    let i = c.self.inside in
    let fit : c.index-bits.result.now < 2 ^ 32 = fit_read i.tags.items i.bits.items c.args.self.now c.args.i c.index.result.now OfInt c.index-bits.result.now c.self.view_is c.self.invariant c.requires c.index.ensures c.index-bits.ensures c.in-OfInt.is in
    omega (arith, fit)

pub overflow_cast-result : goal.overflow_cast-result
overflow_cast-result c =
    let i = c.self.inside in
    let fit : c.index-bits.result.now < 2 ^ 32 = fit_read i.tags.items i.bits.items c.args.self.now c.args.i c.index.result.now OfLit c.index-bits.result.now c.self.view_is c.self.invariant c.requires c.index.ensures c.index-bits.ensures c.in-OfLit.is in
    omega (arith, fit)

pub returns-in-OfInt : goal.returns-in-OfInt
returns-in-OfInt c =
    let i = c.self.inside in
    let read : Int (cast_signed w32 c.index-bits.result.now) ≡ get_or c.args.self.now c.args.i Null = value_read i.tags.items i.bits.items c.args.self.now c.args.i c.index.result.now OfInt c.index-bits.result.now c.self.view_is c.self.invariant c.requires c.index.ensures c.index-bits.ensures c.in-OfInt.is in
    let given = c.cast_signed.ensures in
    first_of (cc, grind (arith, ints))

pub returns-in-OfLong : goal.returns-in-OfLong
returns-in-OfLong c =
    let i = c.self.inside in
    let read : Long (cast_signed w64 c.index-bits.result.now) ≡ get_or c.args.self.now c.args.i Null = value_read i.tags.items i.bits.items c.args.self.now c.args.i c.index.result.now OfLong c.index-bits.result.now c.self.view_is c.self.invariant c.requires c.index.ensures c.index-bits.ensures c.in-OfLong.is in
    let given = c.cast_signed-in-OfLong.ensures in
    first_of (cc, grind (arith, ints))

pub returns-in-OfNull : goal.returns-in-OfNull
returns-in-OfNull c =
    let i = c.self.inside in
    value_read i.tags.items i.bits.items c.args.self.now c.args.i c.index.result.now OfNull c.index-bits.result.now c.self.view_is c.self.invariant c.requires c.index.ensures c.index-bits.ensures c.in-OfNull.is

pub returns-in-OfLit : goal.returns-in-OfLit
returns-in-OfLit c =
    let i = c.self.inside in
    value_read i.tags.items i.bits.items c.args.self.now c.args.i c.index.result.now OfLit c.index-bits.result.now c.self.view_is c.self.invariant c.requires c.index.ensures c.index-bits.ensures c.in-OfLit.is

pub returns-in-OfObj : goal.returns-in-OfObj
returns-in-OfObj c =
    let i = c.self.inside in
    value_read i.tags.items i.bits.items c.args.self.now c.args.i c.index.result.now OfObj c.index-bits.result.now c.self.view_is c.self.invariant c.requires c.index.ensures c.index-bits.ensures c.in-OfObj.is
