use Rattle.electrictest.proofs.RecordSizes.{record_short}
use Rattle.electrictest.proofs.laws.record_size_law.Goals as goal

pub returns : goal.returns
returns c = record_short
