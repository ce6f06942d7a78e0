use Rattle.std.proofs.Common.{◌==◌, ◌++◌, ◌∷◌, [], length, sym, subst, arith, rules, tests}
use Rattle.std.proofs.lemmas.Iterator.{Consumers.YieldsList-turn, Consumers.YieldsList-end, Splits.YieldsList-from_slice_split}
use Rattle.std.proofs.lemmas.{List.length_push, Result.err_from_is_err_and, List.Elements.All-push}
use Rattle.electrictest.specs.Selections.{ordered, pieces_of, IsTestOf}
use Rattle.electrictest.proofs.SelectionLaws.{AreSoFar, so_far_more, so_far_fails, so_far_all}
use Rattle.electrictest.proofs.selections.ordered.Goals as goal

pub returns-in_err-test-clause-gives : goal.returns-in_err-test-clause-gives
unfolding ordered
returns-in_err-test-clause-gives c =
    let turn = YieldsList-turn (YieldsList-from_slice_split {s = c.into_iter-name-iterator.result} _ (λ b. b == 44) c.args.word.now (cc) (cc) (cc) (λ x r q k. search (rules, tests))) c.loop-name.yielded _ c.loop-name.yielded_by _ _ c.in-Some.name c.in-Some.is c.next.ensures.steps in
    let p = err_from_is_err_and c.from_residual.result c.from_residual.ensures.1 in
    rw (p.1, p.2) (so_far_fails c.args.names.now (pieces_of c.args.word.now) (length c.loop-name.yielded) c.in-Some.name.now c.loop-name.tests _ turn.0 turn.1 c.in_err-test.ensures.gives c.loop-name.invariant.so_far)

pub loop-name-preserved : goal.loop-name-preserved
loop-name-preserved c =
    let names = c.args.names.now in
    let pieces = pieces_of c.args.word.now in
    let at = c.loop-name in
    let turn = YieldsList-turn (YieldsList-from_slice_split {s = c.into_iter-name-iterator.result} _ (λ b. b == 44) c.args.word.now (cc) (cc) (cc) (λ x r q k. search (rules, tests))) at.yielded _ at.yielded_by _ _ c.in-Some.name c.in-Some.is c.next.ensures.steps in
    let long = length_push at.yielded c.in-Some.name in
    record {
      can = search rules;
      finite = search rules;
      so_far = rw c.in_ok-push.ensures.pushed (subst (λ k. AreSoFar names pieces k (at.tests ++ c.in_ok-test.test ∷ [])) (sym long) (so_far_more names pieces (length at.yielded) c.in-Some.name.now at.tests c.in_ok-test.test turn.0 turn.1 c.in_ok-test.ensures.gives at.invariant.so_far));
      tests = rw c.in_ok-push.ensures.pushed (All-push (IsTestOf names) at.tests c.in_ok-test.test at.invariant.tests c.in_ok-test.ensures.test);
    }

pub returns-clause-gives : goal.returns-clause-gives
unfolding ordered
returns-clause-gives c =
    let all = YieldsList-end (YieldsList-from_slice_split {s = c.into_iter-name-iterator.result} _ (λ b. b == 44) c.args.word.now (cc) (cc) (cc) (λ x r q k. search (rules, tests))) c.loop-name.yielded _ c.loop-name.yielded_by _ _ c.in-None.is c.next.ensures.steps in
    so_far_all c.args.names.now (pieces_of c.args.word.now) (length c.loop-name.yielded) c.loop-name.tests (omega (arith, all.1)) c.loop-name.invariant.so_far
