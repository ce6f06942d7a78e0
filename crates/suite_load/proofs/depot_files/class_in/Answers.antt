use Rattle.suite_load.proofs.SumLaws.{file_sums}
use Rattle.suite_load.proofs.depot_files.class_in.Goals as goal

pub returns-clause-sums : goal.returns-clause-sums
returns-clause-sums g c = λ files may. file_sums files c.room_after.result c.args.name.now c.in_ok-bytes.bytes c.as_slice-2.result.now c.args.sums.now c.add.new.self (c.in_ok-bytes.ensures.answers files may) c.as_slice-2.ensures c.in_ok-add.ensures.sums
