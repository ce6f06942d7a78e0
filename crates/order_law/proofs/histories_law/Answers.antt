use Rattle.order_law.proofs.Posts.{law_of_histories, chains_apart, forms_apart}
use Rattle.order_law.proofs.histories_law.Goals as goal

pub returns-clause-orderly : goal.returns-clause-orderly
returns-clause-orderly c = law_of_histories

pub returns-clause-chains : goal.returns-clause-chains
returns-clause-chains c = chains_apart

pub returns-clause-forms : goal.returns-clause-forms
returns-clause-forms c = forms_apart
