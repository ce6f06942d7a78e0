use Rattle.dep_record.proofs.{FoundLaws.found_text, GivenLaws.given_text, HashLaws.hashes_law}
use Rattle.dep_record.proofs.laws.text_laws.Goals as goal

pub returns-clause-found : goal.returns-clause-found
returns-clause-found c = found_text

pub returns-clause-given : goal.returns-clause-given
returns-clause-given c = given_text

pub returns-clause-hashes : goal.returns-clause-hashes
returns-clause-hashes c = hashes_law
