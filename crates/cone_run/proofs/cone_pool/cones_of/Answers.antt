use Rattle.std.proofs.Common.{arith}
use Rattle.cone_run.proofs.Pairs.{paired_all, paired_next, paired_none}
use Rattle.cone_run.proofs.cone_pool.cones_of.Goals as goal

pub loop-index-init : goal.loop-index-init
loop-index-init c = paired_none c.args.sel.now _ c.new-lists.ensures

pub loop-index-preserved : goal.loop-index-preserved
loop-index-preserved c =
    let at = c.loop-index in
    paired_next c.args.sel.now at.lists _ at.index 0 _ (omega arith) c.in_ok-push.ensures.pushed at.invariant c.in_ok-close.ensures

pub returns : goal.returns
returns c = paired_all c.args.sel.now c.loop-index.lists c.loop-index.index (omega arith) c.loop-index.invariant
