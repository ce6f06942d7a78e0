use Rattle.dep_record.proofs.TextLaws.{found_gives, only_gives}
use Rattle.dep_record.proofs.reading.read_record.Goals as goal

pub returns-clause-found : goal.returns-clause-found
returns-clause-found c = found_gives _ _ c.said_by.ensures

pub returns-clause-only : goal.returns-clause-only
returns-clause-only c = only_gives _ _ c.said_by.ensures
