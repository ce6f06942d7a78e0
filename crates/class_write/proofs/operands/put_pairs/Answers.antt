use Rattle.std.proofs.Common.{rules, ◌≡◌, ◌+◌, ◌*◌, ◌++◌, drop, get_or, pos, ap, sym, ◌∙◌}
use Rattle.std.specs.Int.{w32}
use Rattle.std.proofs.lemmas.List.{append-nil}
use Rattle.code_decode.specs.Spelling.{signed_bytes, offset_bytes, pair_bytes}
use Rattle.class_write.proofs.OperandLaw.{pairs_next, pairs_done, behind}
use Rattle.class_write.proofs.operands.put_pairs.Goals as goal

pub loop-i-preserved : goal.loop-i-preserved
loop-i-preserved c =
    let out = c.loop-i.out.items in
    let pairs = c.args.pairs.now in
    let key = signed_bytes w32 (get_or pairs (2 * c.loop-i.i) (pos 0)) in
    let to = offset_bytes w32 c.args.pc (get_or pairs (2 * c.loop-i.i + 1) (pos 0)) in
    let after = pair_bytes c.args.pc (drop (2 * (c.loop-i.i + 1)) pairs) in
    let h : c.put_operand.new.out.items ≡ out ++ key = search rules in
    let k : c.put_operand-in-loop-i.new.out.items ≡ c.put_operand.new.out.items ++ to = search rules in
    ap (λ o. o ++ after) (k ∙ ap (λ o. o ++ to) h) ∙ behind out key to after ∙ ap (λ x. out ++ x) (sym (pairs_next c.args.pc pairs c.loop-i.i (pos 0) (pos 0) c.loop-i-test.true)) ∙ c.loop-i.invariant

pub returns : goal.returns
returns c = sym (ap (λ x. c.loop-i.out.items ++ x) (pairs_done c.args.pc c.args.pairs.now c.loop-i.i c.loop-i-test.false) ∙ append-nil c.loop-i.out.items) ∙ c.loop-i.invariant
