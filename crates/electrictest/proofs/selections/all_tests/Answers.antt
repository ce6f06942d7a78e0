use Rattle.std.proofs.Common.{◌≡◌, ◌∙◌, ◌+◌, ◌-◌, ◌<◌, ◌≤◌, ◌++◌, ◌∷◌, [], suc, sym, ap, arith, append_assoc}
use Rattle.std.specs.List.{range_with_len}
use Rattle.std.proofs.lemmas.List.Elements.{All-push}
use Rattle.electrictest.proofs.selections.all_tests.Goals as goal

pub loop-index-preserved : goal.loop-index-preserved
loop-index-preserved c =
    let i = c.loop-index.index in
    let n = c.args.count in
    let ts = c.loop-index.tests in
    let behind = range_with_len (i + 1 + 1) (n - (i + 1)) in
    let first = ap (range_with_len (i + 1)) (let e : n - i ≡ suc (n - (i + 1)) = omega arith in e) in
    record {
      all = rw c.in_ok-push.ensures.pushed (append_assoc ts ((i + 1) ∷ []) behind ∙ ap (λ z. ts ++ z) (sym first) ∙ c.loop-index.invariant.all);
      each = rw c.in_ok-push.ensures.pushed (All-push (λ t. (0 < t) × (t ≤ n)) ts (i + 1) c.loop-index.invariant.each (omega arith, omega arith));
    }
