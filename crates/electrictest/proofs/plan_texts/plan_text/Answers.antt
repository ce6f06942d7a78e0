use Rattle.order_law.proofs.Posts.{forms_apart}
use Rattle.electrictest.proofs.plan_texts.plan_text.Goals as goal

pub push_chains-requires-clause-apart : goal.push_chains-requires-clause-apart
push_chains-requires-clause-apart c = rw c.as_slice.ensures (forms_apart c.args.chains.now.lists c.args.chains.now.form).once

pub push_chains-requires-clause-listed : goal.push_chains-requires-clause-listed
push_chains-requires-clause-listed c = rw c.as_slice.ensures c.requires.listed
