use Rattle.std.proofs.Common.{◌<◌, ◌+◌, ℕ, List, length, append-nil, ap, sym, arith}
use Rattle.std.proofs.lemmas.Result.{err_from_is_err_and}
use Rattle.jvm_model.specs.declared.program.Program.{Program}
use Rattle.test_run.proofs.Lists.{longer}
use Rattle.detect_run.specs.SuiteRun.{tests_to}
use Rattle.detect_run.proofs.SuiteRuns.{along_first, along_more, along_refused, to_more, units_within}
use Rattle.detect_run.proofs.suite_run.run_suite.Goals as goal

pub loop-index-init : goal.loop-index-init
loop-index-init g c = record {
  along = along_first g.M.Memory.world g.M.Memory.follows c.args.p.now c.args.machine.now.memory c.new-outcomes.result c.args.steps.now c.requires.world c.new-outcomes.ensures;
  same = ap (λ (z : List ℕ). record c.args.machine.now { list = z }) (sym (append-nil c.args.machine.now.list));
}

pub overflow_sub-rest : goal.overflow_sub-rest
overflow_sub-rest g c =
    units_within g.M.Memory.world g.M.Memory.follows c.args.p.now c.loop-index.machine.memory c.run_one.new.machine.memory (c.loop-index.index + 1) c.loop-index.rest c.in_ok-outcome.outcome c.in_ok-outcome.ensures.ran

pub loop-index-preserved : goal.loop-index-preserved
loop-index-preserved g c =
    let at = c.loop-index in
    let old = c.args.machine.now in
    let new = c.run_one.new in
    let here : at.index < length c.args.p.now.tests = (let t = c.loop-index-test.true in let e = c.len-count.ensures in let s = ap (λ (p : Program). length p.tests) c.program.ensures.same in omega arith) in
    record {
      along = along_more g.M.Memory.world g.M.Memory.follows c.args.p.now old.memory at.machine.memory new.machine.memory at.index at.rest at.outcomes c.args.steps.now at.steps at.invariant.along here
          c.in_ok-outcome.outcome c.push.new.self new.steps c.in_ok-outcome.ensures.ran c.in_ok-push.ensures.pushed c.in_ok-outcome.ensures.counted;
      same = longer old at.machine new.machine (tests_to at.index) (tests_to (at.index + 1)) (at.index + 1) at.invariant.same c.in_ok-outcome.ensures.after (to_more at.index);
    }

pub returns-in_err-outcome-clause-refused : goal.returns-in_err-outcome-clause-refused
returns-in_err-outcome-clause-refused g c =
    let at = c.loop-index in
    let p = err_from_is_err_and c.from_residual.result c.from_residual.ensures.1 in
    let here : at.index < length c.args.p.now.tests = (let t = c.loop-index-test.true in let e = c.len-count.ensures in let s = ap (λ (p : Program). length p.tests) c.program.ensures.same in omega arith) in
    rw (p.1, p.2) (along_refused g.M.Memory.world g.M.Memory.follows c.args.p.now c.args.machine.now.memory at.machine.memory c.run_one.new.machine.memory at.index at.rest at.outcomes c.args.steps.now at.steps at.invariant.along here
    c.in_err-outcome.field-0.0 c.in_err-outcome.ensures.refused)
