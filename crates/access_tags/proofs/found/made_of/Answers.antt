use Rattle.std.proofs.Common.{◌≡◌, ◌∙◌, ◌+◌, ◌-◌, ℕ, List, [], ◌∷◌, ◌++◌, length, slice_get, Some, sym, ap, arith}
use Rattle.access_tags.specs.declared.ended.Ended.{Ended}
use Rattle.access_tags.specs.FoundIn.{added}
use Rattle.access_tags.proofs.Finding.{added_more, entry_there}
use Rattle.access_tags.proofs.found.made_of.Goals as goal

pub loop-test-preserved : goal.loop-test-preserved
loop-test-preserved c f z h =
    let i = c.loop-test.test-index in
    let x = c.test-item.result in
    let s = c.saturating_sub.result in
    let inv = c.loop-test.invariant f z h in
    let there : slice_get c.args.ended.now i ≡ Some x = entry_there c.args.ended.now i x c.loop-test-test.true ∙ ap (λ (y : Ended). Some y) (sym c.test-item.is) in
    let size = h i x there in
    let now = inv.1 in
    let e : s ≡ f (i + 1) - f i = omega (arith, c.saturating_sub.ensures, size, now) in
    (c.in_ok-push.ensures.items ∙ (ap (λ (ms : List ℕ). ms ++ s ∷ []) inv.0 ∙ sym (added_more f i s e)), size)

pub returns : goal.returns
returns c f z h l =
    let i = c.loop-test.test-index in
    let n = length c.args.ended.now in
    let s = c.saturating_sub-2.result in
    let inv = c.loop-test.invariant f z h in
    let now = inv.1 in
    let all : i ≡ n = omega (arith, c.loop-test-test.false, c.loop-test.auto.test-index-end) in
    let last : c.args.last ≡ f (i + 1) = l ∙ ap (λ (k : ℕ). f (k + 1)) (sym all) in
    let e : s ≡ f (i + 1) - f i = omega (arith, c.saturating_sub-2.ensures, last, now) in
    c.in_ok-push-2.ensures.items ∙ (ap (λ (ms : List ℕ). ms ++ s ∷ []) inv.0 ∙ (sym (added_more f i s e) ∙ ap (λ (k : ℕ). added f (k + 1)) all))
