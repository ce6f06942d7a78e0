use Rattle.std.proofs.Common.{◌≡◌, ◌++◌, take}
use Rattle.test_run.specs.Lists.{RanList}
use Rattle.test_run.proofs.machine.Machine.run_list.Given as goal

-- the tests before this one ran
abbrev pub invariant-loop-index : goal.invariant-loop-index
invariant-loop-index g l = record {
  ran : RanList g.M.Memory.world g.M.Memory.follows l.fn.self.program l.fn.self.memory l.self.memory (take l.index l.list) l.outcomes l.fn.steps l.steps;
  same : l.self ≡ record l.fn.self { list = l.fn.self.list ++ take l.index l.list; memory = l.self.memory };
}
