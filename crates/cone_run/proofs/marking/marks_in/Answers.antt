use Rattle.std.proofs.Common.{◌≡◌, ℕ, ◌+◌, ◌<◌, ◌≤◌, List, All, length, get_or, take, sum_by, sym, ◌∙◌, ap, refl, subst, arith}
use Rattle.std.proofs.lemmas.List.Sums.{sum_by_more}
use Rattle.jvm_model.specs.{declared.program.Program.Program, Suite.last_outcome}
use Rattle.test_run.specs.Running.{IsTest}
use Rattle.cone_run.specs.{Cones.cone_units, Marks.IsEffect, Marks.without}
use Rattle.cone_run.proofs.{ConeLists.filled, ConeLists.member_at, ConeLists.without_has, Pairs.paired_next, Pairs.paired_none}
use Rattle.cone_run.proofs.marking.marks_in.Goals as goal

pub loop-index-init : goal.loop-index-init
loop-index-init g c = record {
  program = refl;
  marks = paired_none c.args.writers.now _ c.new-marks.ensures;
  counted = (omega arith);
}

pub effect_of-requires-clause-tests : goal.effect_of-requires-clause-tests
effect_of-requires-clause-tests g c =
    let at = c.loop-index in
    let p = c.args.machine.now.program in
    let us = c.args.writers.now in
    let u = get_or us at.index 0 in
    let h = without_has p c.args.test u c.args.cone.now (c.requires.writers u (member_at us at.index 0 c.loop-index-test.true)) c.requires.cone in
    subst (λ (q : Program). All (IsTest q) c.as_slice.result.now) (sym at.invariant.program) (subst (λ (z : List ℕ). All (IsTest p) z) (sym (c.as_slice.ensures ∙ c.in_ok-list.ensures)) h.tests)

pub effect_of-requires-clause-some : goal.effect_of-requires-clause-some
effect_of-requires-clause-some g c =
    let us = c.args.writers.now in
    let u = get_or us c.loop-index.index 0 in
    let h = without_has c.args.machine.now.program c.args.test u c.args.cone.now (c.requires.writers u (member_at us c.loop-index.index 0 c.loop-index-test.true)) c.requires.cone in
    subst (λ (z : List ℕ). 0 < length z) (sym (c.as_slice.ensures ∙ c.in_ok-list.ensures)) (filled c.args.test (without u c.args.cone.now) h.own)

pub effect_of-requires-clause-few : goal.effect_of-requires-clause-few
effect_of-requires-clause-few g c =
    let us = c.args.writers.now in
    let u = get_or us c.loop-index.index 0 in
    let h = without_has c.args.machine.now.program c.args.test u c.args.cone.now (c.requires.writers u (member_at us c.loop-index.index 0 c.loop-index-test.true)) c.requires.cone in
    subst (λ (z : List ℕ). length z ≤ 1024) (sym (c.as_slice.ensures ∙ c.in_ok-list.ensures)) h.few

pub loop-index-preserved : goal.loop-index-preserved
loop-index-preserved g c =
    let at = c.loop-index in
    let p = c.args.machine.now.program in
    let us = c.args.writers.now in
    let u = get_or us at.index 0 in
    let lt = c.loop-index-test.true in
    let e : c.as_slice.result.now ≡ without u c.args.cone.now = c.as_slice.ensures ∙ c.in_ok-list.ensures in
    let effect : IsEffect c.args.outcome.now (last_outcome p (without u c.args.cone.now)) c.in_ok-effect.effect =
    subst (λ (z : List ℕ). IsEffect c.args.outcome.now (last_outcome p z) c.in_ok-effect.effect) e (subst (λ (q : Program). IsEffect c.args.outcome.now (last_outcome q c.as_slice.result.now) c.in_ok-effect.effect) at.invariant.program c.in_ok-effect.ensures.effect) in
    let more = sum_by_more (λ (v : ℕ). cone_units p (without v c.args.cone.now)) us at.index 0 lt in
    let own : cone_units at.machine.program c.as_slice.result.now ≡ cone_units p (without u c.args.cone.now) = ap (λ (q : Program). cone_units q c.as_slice.result.now) at.invariant.program ∙ ap (λ (z : List ℕ). cone_units p z) e in
    let now = c.in_ok-effect.ensures.counted in
    let before = at.invariant.counted in
    record {
      program = c.effect_of.ensures.same ∙ at.invariant.program;
      marks = paired_next us at.marks _ at.index 0 _ lt c.in_ok-push.ensures.pushed at.invariant.marks (record { writer = refl; test = refl; effect = effect });
      counted = (now ∙ (ap (λ n. n + cone_units at.machine.program c.as_slice.result.now) before ∙ (let k : (c.args.steps.now + sum_by (λ (v : ℕ). cone_units p (without v c.args.cone.now)) (take at.index us)) + cone_units at.machine.program c.as_slice.result.now ≡ c.args.steps.now + sum_by (λ (v : ℕ). cone_units p (without v c.args.cone.now)) (take (at.index + 1) us) = omega (arith, more, own) in k)));
    }
