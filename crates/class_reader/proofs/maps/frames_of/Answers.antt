use Rattle.std.proofs.Common.{arith, ◌≡◌, ◌∙◌, ℕ, Bool, List, Option, sym, ap, take}
use Rattle.class_pool.specs.declared.pool.Entry.{Entry}
use Rattle.std.proofs.lemmas.Result.{err_from_is_err_and}
use Rattle.class_reader.specs.Maps.{has_bad_tag, within, kept_at}
use Rattle.class_reader.proofs.MapSteps.{frames_on, frames_fail, frames_stop, frames_done}
use Rattle.class_reader.proofs.maps.frames_of.Goals as goal

-- what was found of the bytes at the front that are within the attribute
found_within : (slots : List (Option Entry)) (len total n : ℕ) (bytes front : List ℕ) (bad : Bool) → n ≡ within len total bytes → front ≡ take n bytes → bad ≡ has_bad_tag slots front → has_bad_tag slots (take (within len total bytes) bytes) ≡ bad
found_within slots len total n bytes front bad w f e = ap (λ m. has_bad_tag slots (take m bytes)) (sym w) ∙ ap (has_bad_tag slots) (sym f) ∙ sym e

pub loop-i-preserved : goal.loop-i-preserved
loop-i-preserved c =
    let good = found_within c.args.pool.now c.args.len c.args.total _ c.loop-i.rest.now _ _ (omega arith) c.front.ensures c.in_ok-bad.ensures.found ∙ c.if-bad.false in
    rw c.in_ok-push.ensures.pushed (frames_on c.args.pool.now c.args.left c.args.len c.args.total c.args.count c.loop-i.i c.loop-i.frames c.loop-i.rest.now (c.in_ok-frame.frame, c.in_ok-frame.next.now) _ c.loop-i-test.true good c.in_ok-frame.ensures c.loop-i.invariant)

pub returns-in_err-frame : goal.returns-in_err-frame
returns-in_err-frame c =
    let good = found_within c.args.pool.now c.args.len c.args.total _ c.loop-i.rest.now _ _ (omega arith) c.front.ensures c.in_ok-bad.ensures.found ∙ c.if-bad.false in
    let p = err_from_is_err_and c.from_residual-in_err-frame.result c.from_residual-in_err-frame.ensures.1 in
    rw (p.1, p.2) (frames_fail c.in_err-frame.field-0.0 c.args.pool.now c.args.left c.args.len c.args.total c.args.count c.loop-i.i c.loop-i.frames c.loop-i.rest.now _ c.loop-i-test.true good c.in_err-frame.ensures c.loop-i.invariant)

pub returns-then-bad : goal.returns-then-bad
returns-then-bad c =
    let w : c.saturating_sub-within.result ≡ within c.args.len c.args.total c.loop-i.rest.now = omega arith in
    let bad = found_within c.args.pool.now c.args.len c.args.total _ c.loop-i.rest.now _ _ w c.front.ensures c.in_ok-bad.ensures.found ∙ c.if-bad.true in
    let stop = ap (λ n. kept_at c.loop-i.frames n c.loop-i.rest.now) w ∙ frames_stop c.args.pool.now c.args.left c.args.len c.args.total c.args.count c.loop-i.i c.loop-i.frames c.loop-i.rest.now _ c.loop-i-test.true bad c.loop-i.invariant in
    rw (← stop) c.kept_of.ensures

pub returns : goal.returns
returns c = rw c.new.ensures (frames_done c.args.pool.now c.args.left c.args.len c.args.total c.args.count c.loop-i.i c.loop-i.frames c.loop-i.rest.now _ (omega arith) c.loop-i.invariant)
