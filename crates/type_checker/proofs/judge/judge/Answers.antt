use Rattle.std.proofs.lemmas.Result.{IfOk-weaker}
use Rattle.type_checker.proofs.Onward.{turned_by}
use Rattle.type_checker.proofs.judge.judge.Goals as goal

pub returns : goal.returns
returns c = IfOk-weaker _ _ _ (turned_by _ _ _ _ _ _ c.in_ok-effect.ensures) c.broken.ensures
