use Rattle.std.proofs.Common.{ℕ, List, length, sym, ap, ◌∙◌, arith}
use Rattle.class_reader.specs.declared.parts.ClassParts.{ClassParts}
use Rattle.std.proofs.lemmas.{List.length-map, Result.err_from_is_err_and}
use Rattle.jvm_model.specs.declared.program.Names.{Names}
use Rattle.suite_load.specs.declared.suite_text.TestLine.{TestLine}
use Rattle.suite_load.proofs.LoadLaws.{unread_suite, unread_class, all_read, not_checked, loads_all, sums_all}
use Rattle.suite_load.proofs.whole_suite.load.Goals as goal

pub returns-in_err-suite-clause-loads : goal.returns-in_err-suite-clause-loads
returns-in_err-suite-clause-loads g c =
    let p = err_from_is_err_and c.from_residual.result c.from_residual.ensures.1 in
    rw (p.1, p.2) (λ files may. unread_suite files c.args.name.now c.in_err-suite.field-0.0 (c.in_err-suite.ensures.answers files may))

pub returns-in_err-classes-clause-loads : goal.returns-in_err-classes-clause-loads
returns-in_err-classes-clause-loads g c =
    let p = err_from_is_err_and c.from_residual-in_err-classes.result c.from_residual-in_err-classes.ensures.1 in
    rw (p.1, p.2) (λ files may. unread_class files c.args.name.now c.in_ok-suite.suite c.as_slice.result.now c.in_err-classes.field-0.0 c.as_slice.ensures (c.in_ok-suite.ensures.answers files (c.classes_in.ensures.told files may)) (c.in_err-classes.ensures.answers files may))

pub returns-in_err-checked-clause-loads : goal.returns-in_err-checked-clause-loads
returns-in_err-checked-clause-loads g c =
    let p = err_from_is_err_and c.from_residual-in_err-checked.result c.from_residual-in_err-checked.ensures.1 in
    rw (p.1, p.2) (λ files may.
    let suite = c.in_ok-suite.ensures.answers files (c.classes_in.ensures.told files may) in
    let read = all_read files c.args.name.now c.in_ok-suite.suite c.as_slice.result.now c.in_ok-classes.classes c.as_slice.ensures suite (c.in_ok-classes.ensures.answers files may) in
    not_checked files c.args.name.now c.in_ok-suite.suite c.in_ok-classes.classes c.in_err-checked.field-0.0 read (rw c.as_slice-2.ensures at c.in_err-checked.ensures.gives))

pub returns-clause-loads : goal.returns-clause-loads
returns-clause-loads g c = λ files may.
    let before = c.classes_in.ensures.told files may in
    let read = all_read files c.args.name.now c.in_ok-suite.suite c.as_slice.result.now c.in_ok-classes.classes c.as_slice.ensures (c.in_ok-suite.ensures.answers files before) (c.in_ok-classes.ensures.answers files may) in
    let sums = sums_all files c.args.name.now c.in_ok-suite.suite c.as_slice.result.now c.in_ok-suite.sums c.classes_in.new.sums c.prints.result c.as_slice.ensures (c.in_ok-suite.ensures.sums files before) (c.in_ok-classes.ensures.sums files may) c.prints.ensures.sums in
    loads_all files c.args.name.now c.in_ok-suite.suite c.in_ok-classes.classes c.in_ok-checked.checked c.program.result.now c.in_ok-names.names c.prints.result c.in_ok-names.ensures c.program.ensures.same read sums (rw c.as_slice-2.ensures at c.in_ok-checked.ensures.gives)

pub returns-clause-names : goal.returns-clause-names
returns-clause-names g c =
    let suite = c.in_ok-suite.suite in
    ap (λ (n : Names). length n.tests) c.in_ok-names.ensures ∙ length-map suite.tests (λ (x : TestLine). x.name) ∙ sym c.in_ok-checked.ensures.count

pub returns-clause-sums : goal.returns-clause-sums
returns-clause-sums g c =
    let none = c.in_ok-suite.ensures.none in
    let as_many = c.in_ok-classes.ensures.as_many in
    let count = c.in_ok-classes.ensures.count in
    let classes = c.in_ok-checked.ensures.classes in
    let shown = ap (λ (cs : List ClassParts). length cs) c.as_slice-2.ensures in
    let sums = ap (λ (xs : List (List ℕ)). length xs) c.prints.ensures.classes in
    omega arith
