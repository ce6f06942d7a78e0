use Rattle.suite_gen.proofs.Parts.{on_ok, first, third, other}
use Rattle.suite_gen.proofs.code.push_code.Goals as goal

pub returns-in_ok-push_word : goal.returns-in_ok-push_word
returns-in_ok-push_word c = on_ok c.push_setting.result (first _ _ _ c.args.test c.if-place-eq0.true c.in_ok-push_word.ensures) c.push_setting.ensures

pub returns-in_ok-push_word-2 : goal.returns-in_ok-push_word-2
returns-in_ok-push_word-2 c = on_ok c.push_adding.result (third _ _ _ c.args.test c.if-place-eq0.false c.if-place-eq2.true c.in_ok-push_word-2.ensures) c.push_adding.ensures

pub returns-in_ok-push_word-3 : goal.returns-in_ok-push_word-3
returns-in_ok-push_word-3 c = on_ok c.push_printing.result (other _ _ _ c.args.test c.if-place-eq0.false c.if-place-eq2.false c.in_ok-push_word-3.ensures) c.push_printing.ensures
