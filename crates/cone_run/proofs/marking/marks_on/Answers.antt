use Rattle.std.proofs.Common.{◌≡◌, ℕ, suc, ◌+◌, List, [], ◌++◌, length, sym, ◌∙◌, ap, refl, subst, arith}
use Rattle.std.proofs.lemmas.Result.{err_from_is_err_and}
use Rattle.jvm_model.specs.declared.program.Program.{Program}
use Rattle.type_frames.specs.Typing.{IsTyped}
use Rattle.dep_graph.specs.Graphs.{GoUp}
use Rattle.test_run.specs.Running.{IsTest}
use Rattle.cone_run.specs.{declared.marks.Mark.Mark, Marking.AreMarksTo, Marking.HasMarks, Marking.IsTestFault, Marks.AreUnits}
use Rattle.cone_run.proofs.MarkLaws.{marks_all, marks_begun, marks_fault, marks_more, units_more}
use Rattle.cone_run.proofs.marking.marks_on.Goals as goal

pub loop-index-init : goal.loop-index-init
loop-index-init g c = record {
  program = refl;
  marks = subst (λ (z : List Mark). AreMarksTo c.args.machine.now.program c.args.g.now 0 z) (sym c.new-marks.ensures) (marks_begun c.args.machine.now.program c.args.g.now 0 [] c.requires.record);
  counted = (0, refl, omega arith);
}

pub overflow_cast-test : goal.overflow_cast-test
overflow_cast-test g c =
    let n = c.requires.tests in
    let t = c.loop-index-test.true in
    let few = c.requires.typed.linked.few_tests in
    omega arith

pub marks_of-requires-clause-typed : goal.marks_of-requires-clause-typed
marks_of-requires-clause-typed g c = subst (λ (q : Program). IsTyped q) (sym c.loop-index.invariant.program) c.requires.typed

pub marks_of-requires-clause-record : goal.marks_of-requires-clause-record
marks_of-requires-clause-record g c = subst (λ (q : Program). GoUp (length q.tests) c.args.g.now) (sym c.loop-index.invariant.program) c.requires.record

pub marks_of-requires-clause-test : goal.marks_of-requires-clause-test
marks_of-requires-clause-test g c =
    let n = c.requires.tests in
    let t = c.loop-index-test.true in
    subst (λ (q : Program). IsTest q (c.loop-index.index + 1)) (sym c.loop-index.invariant.program) (omega arith, omega arith)

pub loop-index-preserved : goal.loop-index-preserved
loop-index-preserved g c =
    let at = c.loop-index in
    let p = c.args.machine.now.program in
    let R = c.args.g.now in
    let ns = c.in_ok-more.more in
    let e : suc at.index ≡ at.index + 1 = omega arith in
    let here : HasMarks p R (at.index + 1) ns at.steps c.marks_of.new.steps = subst (λ (q : Program). HasMarks q R (at.index + 1) ns at.steps c.marks_of.new.steps) at.invariant.program c.in_ok-more.ensures.marks in
    let h : HasMarks p R (suc at.index) ns at.steps c.marks_of.new.steps = subst (λ (k : ℕ). HasMarks p R k ns at.steps c.marks_of.new.steps) (sym e) here in
    let more = marks_more p R at.index at.marks at.invariant.marks ns at.steps c.marks_of.new.steps h in
    let units = units_more p R at.index ns at.invariant.counted.0 c.args.steps.now at.steps c.marks_of.new.steps at.invariant.counted.1 at.invariant.counted.2 h in
    record {
      program = c.marks_of.ensures.same ∙ at.invariant.program;
      marks = subst (λ (z : List Mark). AreMarksTo p R (at.index + 1) z) (sym (c.in_ok-extend_from_slice.ensures.pushed ∙ ap (λ (z : List Mark). at.marks ++ z) c.as_slice.ensures)) (subst (λ (k : ℕ). AreMarksTo p R k (at.marks ++ ns)) e more);
      counted = (units.0, subst (λ (k : ℕ). AreUnits p R k units.0) e units.1, units.2);
    }

pub returns-in_err-more-clause-fault : goal.returns-in_err-more-clause-fault
returns-in_err-more-clause-fault g c =
    let at = c.loop-index in
    let p = c.args.machine.now.program in
    let R = c.args.g.now in
    let f = c.in_err-more.field-0.0 in
    let e : suc at.index ≡ at.index + 1 = omega arith in
    let here : IsTestFault p R (at.index + 1) f = subst (λ (q : Program). IsTestFault q R (at.index + 1) f) at.invariant.program c.in_err-more.ensures.fault in
    let q = err_from_is_err_and c.from_residual.result c.from_residual.ensures.1 in
    rw (q.1, q.2) (marks_fault p R at.index at.marks f at.invariant.marks (subst (λ (k : ℕ). IsTestFault p R k f) (sym e) here))

pub returns-clause-marks : goal.returns-clause-marks
returns-clause-marks g c =
    let at = c.loop-index in
    let n = c.requires.tests in
    let t = c.loop-index-test.false in
    marks_all c.args.machine.now.program c.args.g.now at.index at.marks (omega arith) c.requires.record at.invariant.marks

pub returns-clause-units : goal.returns-clause-units
returns-clause-units g c =
    let at = c.loop-index in
    let n = c.requires.tests in
    let t = c.loop-index-test.false in
    let e : at.index ≡ length c.args.machine.now.program.tests = omega arith in
    record {
      units = at.invariant.counted.0;
      are = subst (λ (k : ℕ). AreUnits c.args.machine.now.program c.args.g.now k at.invariant.counted.0) e at.invariant.counted.1;
      counts = at.invariant.counted.2;
    }
