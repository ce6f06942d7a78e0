use Rattle.std.proofs.Common.{length, sym, ap, ◌∙◌, subst, OnOk}
use Rattle.std.proofs.lemmas.Result.{IfOk-weaker, IfErr-weaker}
use Rattle.jvm_model.specs.declared.program.Program.{Program}
use Rattle.type_frames.specs.Typing.{IsTyped}
use Rattle.dep_graph.specs.Graphs.{GoUp}
use Rattle.cone_run.specs.{Cones.IsConeFault, Marks.AreMarks, Marks.HasSpent, Marks.HasWriter}
use Rattle.cone_run.proofs.marking.manifest.Goals as goal

pub marks_on-marks-requires-clause-typed : goal.marks_on-marks-requires-clause-typed
marks_on-marks-requires-clause-typed g c = subst (λ (q : Program). IsTyped q) (sym c.in_ok-machine.ensures.0) c.program.ensures.typed

pub marks_on-marks-requires-clause-record : goal.marks_on-marks-requires-clause-record
marks_on-marks-requires-clause-record g c = subst (λ (q : Program). GoUp (length q.tests) c.args.g.now) (sym c.in_ok-machine.ensures.0) c.requires.record

pub marks_on-marks-requires-clause-tests : goal.marks_on-marks-requires-clause-tests
marks_on-marks-requires-clause-tests g c =
    c.len-tests.ensures ∙ ap (λ (q : Program). length q.tests) (c.program.ensures.same ∙ sym c.in_ok-machine.ensures.0)

pub returns-clause-marks : goal.returns-clause-marks
returns-clause-marks g c =
    IfOk-weaker c.marks_on-marks.result _ _ (λ ms h. subst (λ (q : Program). AreMarks q c.args.g.now ms) c.in_ok-machine.ensures.0 h) c.marks_on-marks.ensures.marks

pub returns-clause-fault : goal.returns-clause-fault
returns-clause-fault g c =
    IfErr-weaker c.marks_on-marks.result _ _ (λ e h. subst (λ (q : Program). IsConeFault q c.args.g.now (HasWriter c.args.g.now) e) c.in_ok-machine.ensures.0 h) c.marks_on-marks.ensures.fault

pub returns-clause-units : goal.returns-clause-units
returns-clause-units g c =
    subst (λ (q : Program). OnOk c.marks_on-marks.result (HasSpent q c.args.g.now c.args.steps.now c.marks_on-marks.new.steps)) c.in_ok-machine.ensures.0 c.marks_on-marks.ensures.units
