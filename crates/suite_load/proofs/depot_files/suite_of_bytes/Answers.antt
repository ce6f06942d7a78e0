use Rattle.suite_load.proofs.GoodLines.{good_suite}
use Rattle.suite_load.proofs.depot_files.suite_of_bytes.Goals as goal

pub returns-in-Ok-clause-lines : goal.returns-in-Ok-clause-lines
returns-in-Ok-clause-lines c = (good_suite c.args.bytes.now c.in-Ok.suite c.in-Ok.ensures).lines

pub returns-in-Ok-clause-few : goal.returns-in-Ok-clause-few
returns-in-Ok-clause-few c = (good_suite c.args.bytes.now c.in-Ok.suite c.in-Ok.ensures).few_classes
