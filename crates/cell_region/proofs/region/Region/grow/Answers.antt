use Rattle.std.proofs.Common.{refl, arith, ◌∙◌}
use Rattle.cell_region.proofs.Places.{grown_in, view_length}
use Rattle.cell_region.proofs.region.Region.grow.Goals as goal
use Rattle.cell_region.proofs.region.Region.grow.Goals.{then-div_ceil-len+in_ok-make_room, else-div_ceil-len}

pub returns-clause-block : goal.returns-clause-block
returns-clause-block g c = (view_length c.self.inside.chunks.items _ _ c.self.invariant.0 c.self.invariant.1 c.self.view_is, refl)

pub returns-clause-grown : goal.returns-clause-grown
returns-clause-grown g c =
    let filled = grown_in c.if-div_ceil-len.self-inside.chunks.items c.fill_cells.new.chunks.items c.self.inside.len c.args.n c.in-Some.end c.args.fill c.args.self.now in
    elim c.if-div_ceil-len.branch [
      | then-div_ceil-len+in_ok-make_room w ↦ filled (rw w.self-inside-is w.make_room.ensures.long) (rw w.self-inside-is w.in_ok-make_room.ensures.room) (omega (arith, c.in-Some.ensures))
          (rw w.self-inside-is (w.make_room.ensures.kept c.self.inside.len c.self.invariant.1 ∙ c.self.view_is)) c.fill_cells.ensures.filled
      | else-div_ceil-len w ↦ filled (rw w.self-inside-is c.self.invariant.0) (rw w.self-inside-is (omega (arith, w.if-div_ceil-len.false, c.div_ceil.ensures, c.len.ensures))) (omega (arith, c.in-Some.ensures))
          (rw w.self-inside-is c.self.view_is) c.fill_cells.ensures.filled
    ]
