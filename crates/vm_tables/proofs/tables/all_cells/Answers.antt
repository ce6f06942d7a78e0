use Rattle.std.proofs.Common.{◌≤◌, length, arith}
use Rattle.vm_tables.proofs.Laid.{cells_all}
use Rattle.vm_tables.proofs.tables.all_cells.Goals as goal

pub returns : goal.returns
returns c =
    let m = c.loop-class-test.false in
    let e = c.len-class-end.ensures in
    let n : length c.args.p.now.classes ≤ c.loop-class.class = omega arith in
    cells_all c.args.p.now c.loop-class.class c.loop-class.cells c.loop-class.invariant.many n c.loop-class.invariant.laid
