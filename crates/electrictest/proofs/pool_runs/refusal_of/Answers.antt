use Rattle.std.proofs.Common.{refl}
use Rattle.electrictest.proofs.pool_runs.refusal_of.Goals as goal

pub returns-in-Ok : goal.returns-in-Ok
returns-in-Ok c =
    let h = rw c.in-OverBudget.is at c.requires.fault in
    let e = c.in-Ok.ensures in
    rw e (record {
      set = c.args.chosen.now.set;
      chains = c.args.chosen.now.chains.lists;
      selected = c.args.chosen.now.selected;
      chosen = c.requires.chosen;
      list = _;
      test = _;
      part = h.chains;
      none = h.none;
      named = refl;
    })
