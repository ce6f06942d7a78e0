use Rattle.std.proofs.Common.{◌∙◌, refl, ap, List, length, arith}
use Rattle.std.proofs.lemmas.{List.length_push, Result.err_from_is_err_and}
use Rattle.class_reader.specs.declared.parts.ClassParts.{ClassParts}
use Rattle.suite_load.proofs.LoadLaws.{so_far_more, so_far_fails, so_far_all, so_far_proper, sums_none, sums_more, sums_last}
use Rattle.suite_load.proofs.depot_files.classes_in.Goals as goal

pub loop-name-init : goal.loop-name-init
loop-name-init g c = record {
  told = λ files may. may;
  faults = omega arith;
  within = omega arith;
  count = ap (λ (cs : List ClassParts). length cs) c.new-classes.ensures;
  sums = λ files may. sums_none c.args.sums.now;
  as_many = omega arith;
  files = λ files may. (c.new-classes.ensures, refl);
}

pub returns-in_err-class-clause-answers : goal.returns-in_err-class-clause-answers
returns-in_err-class-clause-answers g c =
    let at = c.loop-name in
    let p = err_from_is_err_and c.from_residual.result c.from_residual.ensures.1 in
    rw (p.1, p.2) (λ files may. so_far_fails files c.args.names.now at.name-index c.name-item.result at.classes at.read c.in_err-class.field-0.0 (omega arith) c.name-item.is (at.invariant.files files (c.class_in.ensures.told files may)) (c.in_err-class.ensures.answers files may))

pub returns-in_err-class-clause-proper : goal.returns-in_err-class-clause-proper
returns-in_err-class-clause-proper g c =
    let at = c.loop-name in
    let p = err_from_is_err_and c.from_residual.result c.from_residual.ensures.1 in
    rw (p.1, p.2) (so_far_proper c.args.names.now at.name-index c.name-item.result at.classes at.read c.in_err-class.field-0.0 _ _ _ (omega arith) c.name-item.is (λ files may. at.invariant.files files (c.class_in.ensures.told files may)) at.invariant.faults c.in_err-class.ensures.proper)

pub loop-name-preserved : goal.loop-name-preserved
loop-name-preserved g c =
    let at = c.loop-name in
    record {
      told = λ files may. at.invariant.told files (c.class_in.ensures.told files may);
      faults = (let was = at.invariant.faults in let more = c.class_in.ensures.faults in omega arith);
      within = c.in_ok-class.ensures.within;
      count = rw c.in_ok-push.ensures.pushed (length_push at.classes c.in_ok-class.class ∙ (let was = at.invariant.count in omega arith));
      sums = λ files may. sums_more files c.args.names.now at.name-index c.name-item.result c.args.sums.now at.sums c.class_in.new.sums (omega arith) c.name-item.is (at.invariant.sums files (c.class_in.ensures.told files may)) (c.in_ok-class.ensures.sums files may);
      as_many = (let was = at.invariant.as_many in let more = c.in_ok-class.ensures.one_more in omega arith);
      files = rw c.in_ok-push.ensures.pushed (λ files may. so_far_more files c.args.names.now at.name-index c.name-item.result at.classes at.read c.in_ok-class.now c.in_ok-class.class (omega arith) c.name-item.is (at.invariant.files files (c.class_in.ensures.told files may)) (c.in_ok-class.ensures.answers files may));
    }

pub returns-clause-answers : goal.returns-clause-answers
returns-clause-answers g c =
    let at = c.loop-name in
    λ files may. so_far_all files c.args.names.now at.name-index at.classes at.read (omega arith) (at.invariant.files files may)

pub returns-clause-sums : goal.returns-clause-sums
returns-clause-sums g c =
    let at = c.loop-name in
    λ files may. sums_last files c.args.names.now at.name-index c.args.sums.now at.sums (omega arith) (at.invariant.sums files may)
