use Rattle.std.proofs.Common.{◌≡◌, ◌∙◌, Some, None, sym, ap}
use Rattle.dep_record.specs.Fields.{cut}
use Rattle.dep_record.proofs.ListedLaws.{numbers_go_on, numbers_stop, numbers_last, numbers_none}
use Rattle.dep_record.proofs.numbers.numbers_in.Goals as goal

pub loop-piece-preserved : goal.loop-piece-preserved
loop-piece-preserved c =
    rw c.in_ok-push-in-Some-number_of.ensures.pushed
    (numbers_go_on c.loop-piece.numbers c.loop-piece.left.now c.in-Some.piece.now c.in-Some.rest.now c.in-Some-number_of.number _ (sym c.in-Some.ensures.value) (sym c.in-Some-number_of.ensures) c.loop-piece.invariant)

pub returns-in-None : goal.returns-in-None
returns-in-None c =
    numbers_stop c.loop-piece.numbers c.loop-piece.left.now c.in-Some.piece.now c.in-Some.rest.now _ (sym c.in-Some.ensures.value) (sym c.in-None.ensures) c.loop-piece.invariant

pub returns-in-None-number_of : goal.returns-in-None-number_of
returns-in-None-number_of c =
    let whole : cut 44 c.loop-piece.left.now ≡ None = cc c.in_default.ensures.value in
    numbers_none c.loop-piece.numbers c.loop-piece.left.now _ whole (sym c.in-None-number_of.ensures) c.loop-piece.invariant

pub returns-in_ok-push-in-Some-number_of-2 : goal.returns-in_ok-push-in-Some-number_of-2
returns-in_ok-push-in-Some-number_of-2 c =
    let whole : cut 44 c.loop-piece.left.now ≡ None = cc c.in_default.ensures.value in
    ap Some c.in_ok-push-in-Some-number_of-2.ensures.pushed
    ∙ numbers_last c.loop-piece.numbers c.loop-piece.left.now c.in-Some-number_of-2.number _ whole (sym c.in-Some-number_of-2.ensures) c.loop-piece.invariant
