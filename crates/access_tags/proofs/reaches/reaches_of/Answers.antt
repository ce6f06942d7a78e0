use Rattle.std.proofs.Common.{◌∙◌, ◌+◌, ℕ, sym, subst, length, arith, length-append, ap, List, [], ◌∷◌}
use Rattle.order_law.specs.Reach.{IsReachIn}
use Rattle.order_law.specs.declared.records.Reach.{Reach}
use Rattle.access_tags.proofs.Settling.{settled_is, reaches_more}
use Rattle.access_tags.proofs.reaches.reaches_of.Goals as goal

pub loop-i-preserved : goal.loop-i-preserved
loop-i-preserved c =
    let p = c.args.p.now in
    let i = c.loop-i.i in
    let rs = c.loop-i.reaches in
    let x = c.in_ok-reach.field-0 in
    let n = ap (λ (ys : List Reach). length ys) c.in_ok-push.ensures.pushed in
    let m = length-append rs (x ∷ []) in
    let e = c.loop-i.invariant.each in
    record {
      each = omega arith;
      reach = λ kinds T S t ts k h f a. rw c.in_ok-push.ensures.pushed (reaches_more p S kinds rs x (c.loop-i.invariant.reach kinds T S t ts k h f a)
          (subst (λ (j : ℕ). IsReachIn p S kinds (j + 1) x) (sym e)
          (c.in_ok-reach.ensures kinds T S t ts k h (f i (omega (arith, c.loop-i-test.true, c.len-i-end.ensures))) (c.is_settled-settled.ensures ∙ settled_is p S (i + 1) _ c.puts_out-puts.result (a i (omega (arith, c.loop-i-test.true, c.len-i-end.ensures))) c.puts_out-puts.ensures))));
    }
