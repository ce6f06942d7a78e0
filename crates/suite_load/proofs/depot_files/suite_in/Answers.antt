use Rattle.suite_load.proofs.SumLaws.{suite_sums}
use Rattle.suite_load.proofs.depot_files.suite_in.Goals as goal

pub returns-clause-sums : goal.returns-clause-sums
returns-clause-sums g c = λ files may. suite_sums files 1048576 c.args.name.now c.in_ok-bytes.bytes c.as_slice-2.result.now c.of.result (c.in_ok-bytes.ensures.answers files may) c.as_slice-2.ensures c.of.ensures.sums
