use Rattle.std.proofs.Common.{rules, ◌≡◌, ◌++◌, drop, get_or, pos, OnOk, sym, ap, subst, ◌∙◌}
use Rattle.std.specs.{Int.w32, List.flat_map}
use Rattle.std.proofs.lemmas.{List.take_rest, Result.on_ok_weaker}
use Rattle.code_decode.specs.Spelling.{signed_bytes, offset_bytes}
use Rattle.class_write.proofs.OperandLaw.{other_bytes, table_is, behind_four}
use Rattle.class_write.proofs.operands.put_table.Goals as goal

pub returns-in_ok-put_operand-in-len3-up-2 : goal.returns-in_ok-put_operand-in-len3-up-2
returns-in_ok-put_operand-in-len3-up-2 c =
    let out = c.args.out.now.items in
    let args = c.args.args.now in
    let other = other_bytes c.args.pc (get_or args 0 (pos 0)) in
    let low = signed_bytes w32 (get_or args 1 (pos 0)) in
    let high = signed_bytes w32 (get_or args 2 (pos 0)) in
    let places = flat_map (offset_bytes w32 c.args.pc) (drop 3 args) in
    let first : c.put_other.new.out.items ≡ out ++ other = search rules in
    let second : c.put_operand.new.out.items ≡ c.put_other.new.out.items ++ low = search rules in
    let third : c.put_operand-in-len3-up.new.out.items ≡ c.put_operand.new.out.items ++ high = search rules in
    let last : OnOk c.put_places.result (c.put_places.new.out.items ≡ c.put_operand-in-len3-up.new.out.items ++ places) =
    subst (λ xs. OnOk c.put_places.result (c.put_places.new.out.items ≡ c.put_operand-in-len3-up.new.out.items ++ flat_map (offset_bytes w32 c.args.pc) xs)) (take_rest args 3) c.put_places.ensures in
    let before : c.put_operand-in-len3-up.new.out.items ≡ ((out ++ other) ++ low) ++ high = third ∙ ap (λ o. o ++ high) (second ∙ ap (λ o. o ++ low) first) in
    on_ok_weaker c.put_places.result (λ e. e ∙ ap (λ o. o ++ places) before ∙ behind_four out other low high places ∙ ap (λ x. out ++ x) (sym (table_is c.args.pc args (pos 0) (pos 0) (pos 0) c.in-len3-up.len_at_least))) last
