use Rattle.std.proofs.Common.{◌≡◌, true, false, Some, ap, sym, ◌∙◌, arith}
use Rattle.std.specs.Str.{bytes_eq}
use Rattle.outside.proofs.FileLemmas.{content-hit, content-miss, content-end, content-from}
use Rattle.outside.proofs.files.find.Goals as goal

pub returns-then-eq : goal.returns-then-eq
returns-then-eq c =
    let file = c.loop-key-item.result in
    let from = content-from c.args.files.now c.loop-key.key-index file c.args.name.now (omega arith) c.loop-key-item.is in
    let same : bytes_eq file.0 c.args.name.now ≡ true =
    ap (λ k. bytes_eq k c.args.name.now) (sym c.as_slice.ensures) ∙ ap (λ n. bytes_eq c.as_slice.result.now n) (sym c.as_slice-in-loop-key.ensures) ∙ sym c.eq.ensures ∙ c.if-eq.true in
    ap (λ b. Some b) c.as_slice-then-eq.ensures.value ∙ sym (content-hit _ _ _ same) ∙ sym from ∙ c.loop-key.invariant

pub loop-key-preserved : goal.loop-key-preserved
loop-key-preserved c =
    let file = c.loop-key-item.result in
    let from = content-from c.args.files.now c.loop-key.key-index file c.args.name.now (omega arith) c.loop-key-item.is in
    let other : bytes_eq file.0 c.args.name.now ≡ false =
    ap (λ k. bytes_eq k c.args.name.now) (sym c.as_slice.ensures) ∙ ap (λ n. bytes_eq c.as_slice.result.now n) (sym c.as_slice-in-loop-key.ensures) ∙ sym c.eq.ensures ∙ c.if-eq.false in
    sym (content-miss _ _ _ other) ∙ sym from ∙ c.loop-key.invariant

pub returns : goal.returns
returns c = sym (content-end c.args.files.now c.loop-key.key-index c.args.name.now (omega arith)) ∙ c.loop-key.invariant
