use Rattle.std.proofs.Common.{◌≡◌, arith, ◌-◌, ◌∙◌}
use Rattle.std.proofs.lemmas.Result.{err_from_is_err_and}
use Rattle.class_pool.specs.Pool.{slot_at}
use Rattle.class_pool.proofs.{Loops.counted_on, Loops.counted_fails, Loops.counted_done, PoolSteps.is_second-push, PoolSteps.begun}
use Rattle.class_pool.proofs.pool.slots_of.Goals as goal

pub returns-in_err-slot : goal.returns-in_err-slot
returns-in_err-slot c =
    let p = err_from_is_err_and c.from_residual.result c.from_residual.ensures.1 in
    let e : c.saturating_sub-most.result ≡ c.args.count - 1 = omega arith in
    rw (p.1, p.2) (counted_fails c.in_err-slot.field-0.0 slot_at c.loop-i.slots _ c.loop-i.i c.loop-i.rest.now _ c.loop-i-test.true (rw (← c.loop-i.invariant.second) c.in_err-slot.ensures) (c.loop-i.invariant.so_far ∙ begun _ _ _ e))

pub loop-i-preserved : goal.loop-i-preserved
loop-i-preserved c = record {
  so_far = rw c.in_ok-push.ensures.pushed (counted_on slot_at c.loop-i.slots _ c.loop-i.i c.loop-i.rest.now (c.in_ok-slot.slot, c.in_ok-slot.next.now) _ c.loop-i-test.true (rw (← c.loop-i.invariant.second) c.in_ok-slot.ensures) c.loop-i.invariant.so_far);
  second = rw (c.in_ok-push.ensures.pushed, is_second-push) c.is_wide-second.ensures;
}

pub returns : goal.returns
returns c =
    let e : c.saturating_sub-most.result ≡ c.args.count - 1 = omega arith in
    counted_done slot_at c.loop-i.slots _ c.loop-i.i c.loop-i.rest.now _ (omega arith) (c.loop-i.invariant.so_far ∙ begun _ _ _ e)
