use Rattle.std.proofs.Common.{List, [], ◌∷◌, length, sym, ap, subst, arith, length-append}
use Rattle.access_tags.specs.declared.conflict.LocationKey.{LocationKey}
use Rattle.access_tags.proofs.Walked.{Goes, goes_nowhere, goes_past, goes_whole, goes_on}
use Rattle.access_tags.proofs.discovery_tree.DiscoveryTree.walk.Goals as goal

pub returns-in_default : goal.returns-in_default
returns-in_default c = goes_nowhere c.args.self.now.met c.args.test c.args.object c.loop-step.at c.loop-step.reads.items c.new.result (λ p. sym (c.in_default.ensures p)) c.loop-step.invariant.goes

pub returns-in_default-holder : goal.returns-in_default-holder
returns-in_default-holder c ts ys p m w = rw c.from_vec.ensures (rw c.reverse.ensures.items (rw c.in_ok-push.ensures.items
    (goes_whole c.args.self.now.met c.args.test c.args.object c.loop-step.at c.loop-step.reads.items c.in-Some.from (λ q. sym (c.in-Some.ensures q)) (sym c.in_default-holder.ensures) c.loop-step.invariant.goes ts ys p m w)))

pub loop-step-preserved : goal.loop-step-preserved
loop-step-preserved c =
    let reads = c.loop-step.reads.items in
    let from = c.in-Some.from in
    let e = ap (λ (xs : List LocationKey). length xs) c.in_ok-push.ensures.items in
    let n = length-append reads (from ∷ []) in
    let s = c.loop-step.invariant.steps in
    record {
      goes = subst (λ (xs : List LocationKey). Goes c.args.self.now.met c.args.test c.args.object c.in-Some-holder.holder xs) (sym c.in_ok-push.ensures.items)
          (goes_on c.args.self.now.met c.args.test c.args.object c.loop-step.at reads from c.in-Some-holder.holder (λ q. sym (c.in-Some.ensures q)) (sym c.in-Some-holder.ensures) c.loop-step.invariant.goes);
      steps = omega arith;
    }

pub returns : goal.returns
returns c = goes_past c.args.self.now.met c.args.test c.args.object c.loop-step.at c.loop-step.reads.items c.new-2.result (omega (arith, c.loop-step-test.false, c.len-step-end.ensures, c.loop-step.invariant.steps)) c.loop-step.invariant.goes
