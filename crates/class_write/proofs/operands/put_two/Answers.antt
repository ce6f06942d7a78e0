use Rattle.std.proofs.Common.{rules, ◌≡◌, ◌++◌, get_or, pos, OnOk, sym, ap, ◌∙◌, append_assoc}
use Rattle.std.proofs.lemmas.Result.{on_ok_weaker}
use Rattle.class_write.specs.Forms.{form_bytes}
use Rattle.class_write.proofs.OperandLaw.{two_is}
use Rattle.class_write.proofs.operands.put_two.Goals as goal

pub returns-in_ok-put_operand-in-len2 : goal.returns-in_ok-put_operand-in-len2
returns-in_ok-put_operand-in-len2 c =
    let out = c.args.out.now.items in
    let a = form_bytes c.args.first (get_or c.args.args.now 0 (pos 0)) in
    let b = form_bytes c.args.second (get_or c.args.args.now 1 (pos 0)) in
    let h : c.put_operand.new.out.items ≡ out ++ a = search rules in
    let k : OnOk c.put_operand-in-len2.result (c.put_operand-in-len2.new.out.items ≡ c.put_operand.new.out.items ++ b) = search rules in
    let whole = two_is (form_bytes c.args.first) (form_bytes c.args.second) c.args.args.now (pos 0) (pos 0) c.in-len2.len_at_least c.in-len2.len_below in
    on_ok_weaker c.put_operand-in-len2.result (λ e. e ∙ ap (λ o. o ++ b) h ∙ append_assoc out a b ∙ ap (λ x. out ++ x) (sym whole)) k
