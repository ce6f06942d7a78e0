use Rattle.std.proofs.Common.{arith, rules, ◌≡◌, ◌++◌, ◌∷◌, []}
use Rattle.std.proofs.lemmas.Result.{err_from_is_err_and}
use Rattle.code_decode.specs.Switches.{place_at}
use Rattle.class_pool.proofs.Loops.{counted_on, counted_fails, counted_done}
use Rattle.code_decode.proofs.switches.places_of.Goals as goal

pub returns-in_err-to : goal.returns-in_err-to
returns-in_err-to c =
    let p = err_from_is_err_and c.from_residual.result c.from_residual.ensures.1 in
    rw (p.1, p.2) (counted_fails c.in_err-to.field-0.0 (λ _ _ b. place_at c.args.spot.now b) c.loop-i.args _ c.loop-i.i c.loop-i.rest.now _ c.loop-i-test.true c.in_err-to.ensures c.loop-i.invariant)

pub loop-i-preserved : goal.loop-i-preserved
loop-i-preserved c =
    let e : c.add.new.args ≡ c.loop-i.args ++ c.in_ok-to.to ∷ [] = search rules in
    rw e (counted_on (λ _ _ b. place_at c.args.spot.now b) c.loop-i.args _ c.loop-i.i c.loop-i.rest.now (c.in_ok-to.to, c.in_ok-to.next.now) _ c.loop-i-test.true c.in_ok-to.ensures c.loop-i.invariant)

pub returns : goal.returns
returns c = counted_done (λ _ _ b. place_at c.args.spot.now b) c.loop-i.args _ c.loop-i.i c.loop-i.rest.now _ (omega arith) c.loop-i.invariant
