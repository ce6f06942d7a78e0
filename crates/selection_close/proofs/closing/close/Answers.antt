-- The closed set is listed, and then what the selection has beyond.
use Rattle.std.proofs.lemmas.Result.{IfOk-weaker}
use Rattle.selection_close.proofs.Closings.{listed_below, closure_is}
use Rattle.selection_close.proofs.closing.close.Goals as goal

pub push_rest-requires : goal.push_rest-requires
push_rest-requires c = listed_below c.close_set.new.set 1088 c.in_ok-list.list c.in_ok-list.ensures

pub returns : goal.returns
returns c = IfOk-weaker c.push_rest.result _ _ (λ m r. closure_is c.args.g.now c.args.sel.now c.set_of-set.result c.close_set.new.set c.in_ok-list.list m c.goes_up.ensures c.set_of-set.ensures c.close_set.ensures c.in_ok-list.ensures r) c.push_rest.ensures
