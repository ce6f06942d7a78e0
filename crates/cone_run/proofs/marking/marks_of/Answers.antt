use Rattle.std.proofs.Common.{◌≡◌, ℕ, ◌+◌, ◌<◌, ◌≤◌, List, All, length, sum_by, Some, sym, ◌∙◌, ap, subst}
use Rattle.std.proofs.lemmas.Result.{err_from_is_err_and}
use Rattle.jvm_model.specs.{declared.outcome.Outcome.Outcome, declared.program.Program.Program, Suite.last_outcome}
use Rattle.test_run.specs.Running.{IsTest}
use Rattle.cone_run.specs.{Cones.IsCone, Cones.cone_units, Marking.AreMarksIn, Marks.without, Runs.HasTest}
use Rattle.cone_run.proofs.ConeLists.{filled, has_test}
use Rattle.cone_run.proofs.MarkLaws.{added, has_marks, is_empty, no_marks, not_empty, test_fault, writers_low}
use Rattle.cone_run.proofs.marking.marks_of.Goals as goal

pub returns-then-is_empty-clause-marks : goal.returns-then-is_empty-clause-marks
returns-then-is_empty-clause-marks g c =
    let none = is_empty c.raw_of-writers.result.now c.is_empty.result c.is_empty.ensures c.if-is_empty.true in
    no_marks c.args.machine.now.program c.args.g.now c.args.test c.raw_of-writers.result.now c.new.result c.args.steps.now c.raw_of-writers.ensures none c.new.ensures

pub run_alone-requires-clause-tests : goal.run_alone-requires-clause-tests
run_alone-requires-clause-tests g c =
    let p = c.args.machine.now.program in
    let h = has_test p c.args.g.now c.args.test c.in_ok-cone.cone c.requires.typed c.requires.record c.requires.test c.in_ok-cone.ensures in
    subst (λ (z : List ℕ). All (IsTest p) z) (sym c.as_slice-cone.ensures) h.tests

pub run_alone-requires-clause-some : goal.run_alone-requires-clause-some
run_alone-requires-clause-some g c =
    let h = has_test c.args.machine.now.program c.args.g.now c.args.test c.in_ok-cone.cone c.requires.typed c.requires.record c.requires.test c.in_ok-cone.ensures in
    subst (λ (z : List ℕ). 0 < length z) (sym c.as_slice-cone.ensures) (filled c.args.test c.in_ok-cone.cone h.own)

pub run_alone-requires-clause-few : goal.run_alone-requires-clause-few
run_alone-requires-clause-few g c =
    let h = has_test c.args.machine.now.program c.args.g.now c.args.test c.in_ok-cone.cone c.requires.typed c.requires.record c.requires.test c.in_ok-cone.ensures in
    subst (λ (z : List ℕ). length z ≤ 1024) (sym c.as_slice-cone.ensures) h.few

pub returns-in_err-run-clause-fault : goal.returns-in_err-run-clause-fault
returns-in_err-run-clause-fault g c =
    let us = c.raw_of-writers.result.now in
    let some = not_empty us c.is_empty.result c.is_empty.ensures c.if-is_empty.false in
    let cone : IsCone c.args.g.now c.args.test c.as_slice-cone.result.now = subst (λ (z : List ℕ). IsCone c.args.g.now c.args.test z) (sym c.as_slice-cone.ensures) c.in_ok-cone.ensures in
    let p = err_from_is_err_and c.from_residual-in_err-run.result c.from_residual-in_err-run.ensures.1 in
    rw (p.1, p.2) (test_fault c.args.machine.now.program c.args.g.now c.args.test us c.as_slice-cone.result.now c.args.steps.now c.run_alone.new.steps c.in_err-run.field-0.0 c.raw_of-writers.ensures some cone c.in_err-run.ensures.fault)

pub marks_in-requires-clause-cone : goal.marks_in-requires-clause-cone
marks_in-requires-clause-cone g c =
    let p = c.args.machine.now.program in
    let h = has_test p c.args.g.now c.args.test c.in_ok-cone.cone c.requires.typed c.requires.record c.requires.test c.in_ok-cone.ensures in
    subst (λ (q : Program). HasTest q c.args.test c.as_slice-cone.result.now) (sym c.run_alone.ensures.same.0) (subst (λ (z : List ℕ). HasTest p c.args.test z) (sym c.as_slice-cone.ensures) h)

pub marks_in-requires-clause-writers : goal.marks_in-requires-clause-writers
marks_in-requires-clause-writers g c = writers_low c.args.g.now (length c.args.machine.now.program.tests) c.args.test c.raw_of-writers.result.now c.requires.record c.raw_of-writers.ensures

pub returns-clause-marks : goal.returns-clause-marks
returns-clause-marks g c =
    let p = c.args.machine.now.program in
    let R = c.args.g.now in
    let us = c.raw_of-writers.result.now in
    let some = not_empty us c.is_empty.result c.is_empty.ensures c.if-is_empty.false in
    let l = c.as_slice-cone.result.now in
    let cone : IsCone R c.args.test l = subst (λ (z : List ℕ). IsCone R c.args.test z) (sym c.as_slice-cone.ensures) c.in_ok-cone.ensures in
    let o = c.outcome-outcome.result.now in
    let piece = c.in_ok-run.ensures.piece in
    let gives : last_outcome p l ≡ Some o = piece.gives ∙ ap (λ (z : Outcome). Some z) (sym c.outcome-outcome.ensures.gives) in
    let same = c.run_alone.ensures.same.0 in
    let marks : AreMarksIn p l o c.args.test us c.in_ok-marks_in.field-0 = subst (λ (q : Program). AreMarksIn q l o c.args.test us c.in_ok-marks_in.field-0) same c.in_ok-marks_in.ensures.marks in
    let own = c.in_ok-run.ensures.counted in
    let rest : c.marks_in.new.steps ≡ c.run_alone.new.steps + sum_by (λ u. cone_units p (without u l)) us = subst (λ (q : Program). c.marks_in.new.steps ≡ c.run_alone.new.steps + sum_by (λ u. cone_units q (without u l)) us) same c.in_ok-marks_in.ensures.counted in
    has_marks p R c.args.test us c.in_ok-marks_in.field-0 c.args.steps.now c.marks_in.new.steps c.raw_of-writers.ensures some (record {
      list = l;
      cone = cone;
      outcome = o;
      gives = gives;
      marks = marks;
      sum = added c.args.steps.now c.run_alone.new.steps c.marks_in.new.steps (cone_units p l) (sum_by (λ u. cone_units p (without u l)) us) own rest;
    })
