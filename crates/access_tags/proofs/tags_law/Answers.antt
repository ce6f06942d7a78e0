use Rattle.access_tags.proofs.{Conflicts.tags_law, EdgeRows.rows_law}
use Rattle.access_tags.proofs.tags_law.Goals as goal

pub returns : goal.returns
returns c = record { conflicts = tags_law; edges = rows_law }
