use Rattle.std.proofs.Common.{◌≡◌, ◌+◌, take, sum_by}
use Rattle.cone_run.specs.{Books.AreLeft, Books.posted_units, Cones.AreConesOf, Cones.cone_units}
use Rattle.cone_run.proofs.cone_pool.finish.Given as goal

-- the pieces so far, and those that are left
abbrev pub invariant-loop-place : goal.invariant-loop-place
invariant-loop-place g l = record {
  program : l.machine.program ≡ l.fn.machine.program;
  left : AreLeft g.N.PoolName.program g.N.BookName.edges g.N.BookName.selected l.place l.pieces.items;
  all : AreConesOf g.N.PoolName.program g.N.BookName.edges (take l.place g.N.BookName.selected) l.all;
  units : l.steps ≡ l.fn.steps + (sum_by (λ x. cone_units g.N.PoolName.program x.list) l.all + sum_by (posted_units g.N.PoolName.program) l.pieces.items);
}
