use Rattle.std.proofs.Common.{rules, ◌≡◌, ◌/◌, ◌++◌, length, drop, get_or, pos, OnOk, sym, ap, subst, ◌∙◌}
use Rattle.std.specs.Int.{w32, to_be_bytes}
use Rattle.std.proofs.lemmas.{List.take_rest, Result.on_ok_weaker}
use Rattle.code_decode.specs.Spelling.{pair_bytes}
use Rattle.class_write.proofs.OperandLaw.{other_bytes, lookup_is, behind}
use Rattle.class_write.proofs.operands.put_lookup.Goals as goal

pub returns-in_ok-put_word-in-len1-up : goal.returns-in_ok-put_word-in-len1-up
returns-in_ok-put_word-in-len1-up c =
    let out = c.args.out.now.items in
    let args = c.args.args.now in
    let other = other_bytes c.args.pc (get_or args 0 (pos 0)) in
    let count = to_be_bytes w32 (length (drop 1 args) / 2) in
    let pairs = pair_bytes c.args.pc (drop 1 args) in
    let first : c.put_other.new.out.items ≡ out ++ other = search rules in
    let second : c.put_word.new.out.items ≡ c.put_other.new.out.items ++ count = search rules in
    let last : OnOk c.put_pairs.result (c.put_pairs.new.out.items ≡ c.put_word.new.out.items ++ pairs) =
    subst (λ xs. OnOk c.put_pairs.result (c.put_pairs.new.out.items ≡ c.put_word.new.out.items ++ pair_bytes c.args.pc xs)) (take_rest args 1) c.put_pairs.ensures in
    on_ok_weaker c.put_pairs.result (λ e. e ∙ ap (λ o. o ++ pairs) (second ∙ ap (λ o. o ++ count) first) ∙ behind out other count pairs ∙ ap (λ x. out ++ x) (sym (lookup_is c.args.pc args (pos 0) c.in-len1-up.len_at_least))) last
