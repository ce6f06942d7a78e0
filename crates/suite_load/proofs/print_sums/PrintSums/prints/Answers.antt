use Rattle.dep_record.proofs.HashLaws.{same_prints}
use Rattle.suite_load.proofs.print_sums.PrintSums.prints.Goals as goal

pub returns-clause-sums : goal.returns-clause-sums
returns-clause-sums c = λ suite classes h. same_prints _ _ _ _ _ _ _ _ (c.finalize-digest.ensures _ h.digest) h.suite h.classes (c.finalize-eager.ensures _ h.eager)
