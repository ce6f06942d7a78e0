use Rattle.class_link.proofs.LinkOnce as law
use Rattle.class_link.proofs.laws.links_once.Goals as goal

pub returns : goal.returns
returns c = law.links_once
