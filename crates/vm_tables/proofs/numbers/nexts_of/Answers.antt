use Rattle.std.proofs.Common.{◌≤◌, length, arith}
use Rattle.vm_tables.proofs.Places.{nexts_all}
use Rattle.vm_tables.proofs.numbers.nexts_of.Goals as goal

pub returns : goal.returns
returns c =
    let m = c.loop-pc-test.false in
    let n : length c.args.numbers.now ≤ c.loop-pc.pc = omega (arith, c.requires.long) in
    nexts_all c.args.body.now c.args.numbers.now c.loop-pc.nexts c.loop-pc.pc c.requires.numbers n c.loop-pc.invariant.many c.loop-pc.invariant.after
