use Rattle.std.proofs.Common.{rules, ◌≡◌, ◌+◌, ◌*◌, ◌%◌, ◌^◌, ℕ, List, get_or, drop, to_z, of_z, w32, ap, subst, sym, ◌∙◌, arith}
use Rattle.std.proofs.{Math.ListN.drop_of_length-le, lemmas.List.at_drop_more}
use Rattle.jvm_model.specs.NativesString.{hash_sum}
use Rattle.vm_natives.proofs.Hashes.{wrapped_step, hashed}
use Rattle.vm_natives.proofs.texts.hash_of.Goals as goal

pub loop-unit-preserved : goal.loop-unit-preserved
loop-unit-preserved c =
    let h = c.loop-unit.hash in
    let text = c.args.text.now in
    let i = c.loop-unit.unit-index in
    let F : List ℕ → ℕ = λ us. hash_sum h us % 2 ^ 32 in
    subst (λ (u : ℕ). hash_sum ((h * 31 % 2 ^ 32 + u) % 2 ^ 32) (drop (i + 1) text) % 2 ^ 32 ≡ hash_sum 0 text % 2 ^ 32) (sym c.from.ensures)
    (wrapped_step h (get_or text i 0) (drop (i + 1) text) ∙ sym (at_drop_more F text i 0 c.loop-unit-test.true) ∙ c.loop-unit.invariant)

pub returns : goal.returns
returns c =
    let h = c.loop-unit.hash in
    let text = c.args.text.now in
    let same : to_z w32 (of_z w32 c.cast_signed.result) ≡ c.cast_signed.result = search rules in
    let all : h % 2 ^ 32 ≡ hash_sum 0 text % 2 ^ 32 = sym (ap (λ us. hash_sum h us % 2 ^ 32) (drop_of_length-le text c.loop-unit-test.false)) ∙ c.loop-unit.invariant in
    same ∙ c.cast_signed.ensures ∙ hashed h text (omega (arith, c.loop-unit.auto.hash-fits)) all
