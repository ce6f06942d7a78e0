use Rattle.std.proofs.Common.{◌≡◌, length, refl, ap, subst, sym, ◌∙◌, arith, Some}
use Rattle.jvm_model.specs.Linked.{Linked}
use Rattle.order_law.specs.declared.records.More.{More}
use Rattle.order_law.specs.Reach.{IsMoreOf}
use Rattle.detect_run.proofs.{Detected.reach_each, Detected.reach_found, Kept.record_form, Kept.reach_form}
use Rattle.detect_run.proofs.detection.record_of.Goals as goal

pub reaches-requires : goal.reaches-requires
reaches-requires g c = (omega arith, (c.requires.program ∙ sym c.program.ensures.same, subst Linked (sym c.program.ensures.same) c.program.ensures.typed.linked))

pub invariant_of-result-clause-form : goal.invariant_of-result-clause-form
invariant_of-result-clause-form g c =
    let run = c.requires.ran in
    record_form c.args.p.now c.program.ensures.typed run.detected c.args.units c.args.edges run.units c.requires.edges c.requires.printed

pub invariant_of-result-clause-more_form : goal.invariant_of-result-clause-more_form
invariant_of-result-clause-more_form g c =
    let run = c.requires.ran in
    let ty = c.program.ensures.typed in
    let same = c.program.ensures.same in
    let reach = c.in_ok-reach in
    reach_form c.args.p.now ty run.detected c.args.units (record { suite = c.args.prints.now.suite; classes = c.in_ok-classes.classes; reach = reach.reach }) run.units
    (ap length (c.in_ok-classes.ensures ∙ c.as_slice.ensures) ∙ c.requires.classes) (reach_each c.args.p.now ty _ _ _ _ run same reach.reach reach.ensures.each)
    (reach_found c.args.p.now ty _ _ _ _ run same reach.reach reach.ensures.each reach.ensures.reach)

pub returns-clause-kept : goal.returns-clause-kept
returns-clause-kept g c =
    let run = c.requires.ran in
    let p = c.args.p.now in
    let ty = c.program.ensures.typed in
    let same = c.program.ensures.same in
    let reach = c.in_ok-reach in
    record {
      digest = refl;
      units = run.units;
      edges = c.requires.edges;
      more = λ m e. subst (IsMoreOf p c.args.prints.now) (given_some e) (record {
        suite = refl;
        classes = c.in_ok-classes.ensures ∙ c.as_slice.ensures;
        length = reach_each p ty _ _ _ _ run same reach.reach reach.ensures.each;
        reach = reach_found p ty _ _ _ _ run same reach.reach reach.ensures.each reach.ensures.reach;
      });
    }
  where
    given_some : {a b : More} → Some a ≡ Some b → a ≡ b
    given_some e = cc
