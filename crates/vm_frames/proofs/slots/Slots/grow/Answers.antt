use Rattle.std.proofs.Common.{◌≡◌, ◌-◌, length, refl, ap, arith}
use Rattle.std.proofs.lemmas.List.{append-nil}
use Rattle.vm_frames.proofs.Kept.{length_values}
use Rattle.vm_frames.proofs.slots.Slots.grow.Goals as goal

pub returns-then-wanted-len-clause-grown : goal.returns-then-wanted-len-clause-grown
returns-then-wanted-len-clause-grown c =
    let i = c.self.inside in
    let none : c.args.wanted - length c.args.self.now ≡ 0 = omega (arith, c.if-wanted-len.true, c.len.ensures, length_values i.tags.items i.bits.items c.self.invariant.0, ap length c.self.view_is) in
    rw (none, append-nil c.args.self.now) refl
