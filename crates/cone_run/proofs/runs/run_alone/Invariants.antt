use Rattle.std.proofs.Common.{◌≡◌, ◌+◌, ◌*◌, ◌≤◌, take, false, MatchOption}
use Rattle.cone_run.specs.{Cones.cone_units, Runs.IsPieceOf}
use Rattle.cone_run.proofs.runs.run_alone.Given as goal

-- the tests before this one ran
abbrev pub invariant-loop-index : goal.invariant-loop-index
invariant-loop-index g l = record {
  program : l.machine.program ≡ l.fn.machine.program;
  worker : l.machine.worker ≡ l.fn.machine.worker;
  ready : l.machine.spent ≡ false;
  list : l.machine.list ≡ take l.index l.list;
  units : l.units ≡ cone_units l.fn.machine.program (take l.index l.list);
  low : l.units ≤ l.index * 67108864;
  counted : l.steps ≡ l.fn.steps + l.units;
  last : MatchOption l.last (l.index ≡ 0) (IsPieceOf l.fn.machine.program (take l.index l.list));
}
