use Rattle.access_tags.proofs.{Spread.numbers_law, Changes.changes_law}
use Rattle.access_tags.proofs.numbers_law.Goals as goal

pub returns : goal.returns
returns c = record { numbers = numbers_law; changes = changes_law }
