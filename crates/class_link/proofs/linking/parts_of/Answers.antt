use Rattle.std.proofs.Common.{refl}
use Rattle.std.proofs.lemmas.Result.{err_from_is_err_and}
use Rattle.class_link.proofs.LinkSteps.{supertypes_said, cycles_said, references_said, tests_said, program_said}
use Rattle.class_link.proofs.linking.parts_of.Goals as goal

pub returns-in_err-check_all_supertypes-clause-fault : goal.returns-in_err-check_all_supertypes-clause-fault
returns-in_err-check_all_supertypes-clause-fault c =
    let cs = c.args.classes.now in
    let lines = c.args.lines.now in
    let f = c.in_err-check_all_supertypes.field-0.0 in
    let p = err_from_is_err_and c.from_residual.result c.from_residual.ensures.1 in
    rw (p.1, p.2) (supertypes_said cs lines _ c.requires.setting f c.requires.names c.in_err-check_all_supertypes.ensures)

pub returns-in_err-check_cycles-clause-fault : goal.returns-in_err-check_cycles-clause-fault
returns-in_err-check_cycles-clause-fault c =
    let cs = c.args.classes.now in
    let lines = c.args.lines.now in
    let f = c.in_err-check_cycles.field-0.0 in
    let p = err_from_is_err_and c.from_residual-in_err-check_cycles.result c.from_residual-in_err-check_cycles.ensures.1 in
    rw (p.1, p.2) (cycles_said cs lines _ c.requires.setting f c.requires.names c.in_ok-check_all_supertypes.ensures c.in_err-check_cycles.ensures.err)

pub returns-in_err-targets-clause-fault : goal.returns-in_err-targets-clause-fault
returns-in_err-targets-clause-fault c =
    let cs = c.args.classes.now in
    let lines = c.args.lines.now in
    let f = c.in_err-targets.field-0.0 in
    let p = err_from_is_err_and c.from_residual-in_err-targets.result c.from_residual-in_err-targets.ensures.1 in
    rw (p.1, p.2) (references_said cs lines _ c.requires.setting f c.requires.names c.in_ok-check_all_supertypes.ensures c.in_ok-check_cycles.ensures.ok c.in_err-targets.ensures.fault)

pub returns-in_err-tests-clause-fault : goal.returns-in_err-tests-clause-fault
returns-in_err-tests-clause-fault c =
    let cs = c.args.classes.now in
    let lines = c.args.lines.now in
    let f = c.in_err-tests.field-0.0 in
    let p = err_from_is_err_and c.from_residual-in_err-tests.result c.from_residual-in_err-tests.ensures.1 in
    rw (p.1, p.2) (tests_said cs lines _ c.requires.setting c.requires.names c.in_ok-check_all_supertypes.ensures c.in_ok-check_cycles.ensures.ok c.in_ok-targets.ensures.fault _ c.as_slice.ensures f c.in_err-tests.ensures)

pub returns-clause-program : goal.returns-clause-program
returns-clause-program c =
    let cs = c.args.classes.now in
    let lines = c.args.lines.now in
    program_said cs lines _ c.requires.setting c.requires.names c.in_ok-check_all_supertypes.ensures c.in_ok-check_cycles.ensures.ok c.in_ok-targets.ensures.fault _ c.as_slice.ensures _ c.in_ok-tests.tests refl c.in_ok-tests.ensures
