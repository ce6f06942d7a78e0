use Rattle.std.proofs.Common.{sym, subst}
use Rattle.class_link.specs.Link.{AreLines}
use Rattle.suite_load.proofs.{CheckLaws.linked_goes, CheckLaws.not_linked, CheckLaws.not_typed, LinkedCounts.tests_linked, LinkedCounts.classes_linked}
use Rattle.suite_load.proofs.linking.program_of.Goals as goal

pub returns-in-Err-clause-gives : goal.returns-in-Err-clause-gives
returns-in-Err-clause-gives c = rw c.link_fault.ensures.named (not_linked c.args.suite.now c.args.classes.now c.in_ok-lines.lines c.in-Err.fault c.in_ok-lines.ensures c.in-Err.ensures.links)

pub returns-in-Ok-check-clause-gives : goal.returns-in-Ok-check-clause-gives
returns-in-Ok-check-clause-gives c =
    let good = c.in-Ok-check.ensures.good in
    linked_goes c.args.suite.now c.args.classes.now c.in_ok-lines.lines c.in-Ok.program c.in-Ok-check.checked c.in_ok-lines.ensures c.in-Ok.ensures.links good.0 good.1

pub returns-clause-gives : goal.returns-clause-gives
returns-clause-gives c = rw c.check_fault.ensures.named (not_typed c.args.suite.now c.args.classes.now c.in_ok-lines.lines c.in-Ok.program c.in-Err-check.fault c.in_ok-lines.ensures c.in-Ok.ensures.links c.in-Err-check.ensures.fault)

pub returns-in-Ok-check-clause-count : goal.returns-in-Ok-check-clause-count
returns-in-Ok-check-clause-count c =
    let good = c.in-Ok-check.ensures.good in
    tests_linked c.args.suite.now c.args.classes.now c.in_ok-lines.lines c.in-Ok.program c.in-Ok-check.checked (subst AreLines (sym c.in_ok-lines.ensures) c.requires.lines) c.in_ok-lines.ensures c.in-Ok.ensures.links good.0

pub returns-in-Ok-check-clause-classes : goal.returns-in-Ok-check-clause-classes
returns-in-Ok-check-clause-classes c =
    let good = c.in-Ok-check.ensures.good in
    classes_linked c.args.classes.now c.in_ok-lines.lines c.in-Ok.program c.in-Ok-check.checked c.in-Ok.ensures.links good.0
