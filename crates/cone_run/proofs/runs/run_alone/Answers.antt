use Rattle.std.proofs.Common.{◌≡◌, ℕ, ◌+◌, List, length, take, get_or, sym, ◌∙◌, ap, subst, arith}
use Rattle.std.proofs.lemmas.Result.{err_from_is_err_and}
use Rattle.jvm_model.specs.declared.{outcome.Outcome.Outcome, program.Program.Program}
use Rattle.test_run.specs.Running.{IsTest}
use Rattle.type_frames.specs.Typing.{IsTyped}
use Rattle.cone_run.specs.{Cones.cone_units, Runs.IsNextFault, Runs.RanAfter}
use Rattle.cone_run.proofs.RunLaws.{counted_more, list_fault, low_next, piece_more, room_next, units_next}
use Rattle.cone_run.proofs.runs.run_alone.Goals as goal

pub run_next-requires-clause-typed : goal.run_next-requires-clause-typed
run_next-requires-clause-typed g c = subst (λ (q : Program). IsTyped q) (sym c.loop-index.invariant.program) c.requires.typed

pub run_next-requires-clause-test : goal.run_next-requires-clause-test
run_next-requires-clause-test g c = subst (λ (q : Program). IsTest q (get_or c.args.list.now c.loop-index.index 0)) (sym c.loop-index.invariant.program) (c.requires.tests c.loop-index.index 0 (omega arith))

pub loop-index-preserved : goal.loop-index-preserved
loop-index-preserved g c =
    let at = c.loop-index in
    let p = c.args.machine.now.program in
    let l = c.args.list.now in
    let t = get_or l at.index 0 in
    let x = c.in_ok-piece.piece in
    let ran : RanAfter p (take at.index l) t x = subst (λ (k : List ℕ). RanAfter p k t x) at.invariant.list (subst (λ (q : Program). RanAfter q at.machine.list t x) at.invariant.program c.in_ok-piece.ensures.ran) in
    let more = piece_more p l at.index x (omega arith) ran in
    let units = units_next p l at.index x (omega arith) ran in
    let same : c.outcome.result.now.units ≡ x.outcome.units = ap (λ (o : Outcome). o.units) c.outcome.ensures.gives in
    record {
      program = c.run_next.ensures.same.0 ∙ at.invariant.program;
      worker = c.run_next.ensures.same.1 ∙ at.invariant.worker;
      ready = c.in_ok-piece.ensures.ready;
      list = c.in_ok-piece.ensures.list ∙ more.list;
      units = ap (λ (n : ℕ). at.units + n) same ∙ (ap (λ (n : ℕ). n + x.outcome.units) at.invariant.units ∙ sym units);
      low = low_next at.units c.outcome.result.now.units x.outcome.units at.index at.invariant.low same ran.few;
      counted = counted_more c.args.steps.now at.steps c.run_next.new.steps at.units c.outcome.result.now.units x.outcome.units at.invariant.counted c.in_ok-piece.ensures.counted same;
      last = more;
    }

pub returns-in_err-piece-clause-fault : goal.returns-in_err-piece-clause-fault
returns-in_err-piece-clause-fault g c =
    let at = c.loop-index in
    let p = c.args.machine.now.program in
    let l = c.args.list.now in
    let t = get_or l at.index 0 in
    let f = c.in_err-piece.field-0.0 in
    let next : IsNextFault p (take at.index l) t f = subst (λ (k : List ℕ). IsNextFault p k t f) at.invariant.list (subst (λ (q : Program). IsNextFault q at.machine.list t f) at.invariant.program c.in_err-piece.ensures.fault) in
    let now : c.run_next.new.steps ≡ c.args.steps.now + cone_units p (take at.index l) = c.in_err-piece.ensures.uncounted ∙ (at.invariant.counted ∙ ap (λ (n : ℕ). c.args.steps.now + n) at.invariant.units) in
    let e = err_from_is_err_and c.from_residual.result c.from_residual.ensures.1 in
    rw (e.1, e.2) (list_fault p l at.index c.args.steps.now c.run_next.new.steps f c.loop-index-test.true now next)

pub overflow_add-units : goal.overflow_add-units
overflow_add-units g c =
    let at = c.loop-index in
    let x = c.in_ok-piece.piece in
    let same : c.outcome.result.now.units ≡ x.outcome.units = ap (λ (o : Outcome). o.units) c.outcome.ensures.gives in
    let r = room_next at.units c.outcome.result.now.units x.outcome.units at.index (length c.args.list.now) at.invariant.low same c.in_ok-piece.ensures.ran.few c.loop-index-test.true c.requires.few in
    omega (arith, r)
