use Rattle.std.proofs.Common.{arith}
use Rattle.std.proofs.lemmas.Bool.{leb-true}
use Rattle.access_tags.proofs.Grown.{fresh_past}
use Rattle.access_tags.proofs.cells.Cells.is_fresh.Goals as goal

pub returns : goal.returns
returns c e =
    let o = c.args.self.now in
    let h = leb-true c.len.result c.args.at e in
    fresh_past o.pasts o.readers o.marks c.args.at (omega (arith, h, c.len.ensures))
