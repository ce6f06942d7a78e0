use Rattle.electric.proofs.GatherLemmas.{handed_none, handed_more}
use Rattle.electric.proofs.gathered.Gathered.flush.Goals as goal

pub loop-self-init : goal.loop-self-init
loop-self-init g c = handed_none _ _

pub loop-self-preserved : goal.loop-self-preserved
loop-self-preserved g c = handed_more _ _ _ _ _ _ c.loop-self.invariant c.hand_on.ensures.handed

pub returns-then-hand_on-eq0-clause-handed : goal.returns-then-hand_on-eq0-clause-handed
returns-then-hand_on-eq0-clause-handed g c = handed_more _ _ _ _ _ _ c.loop-self.invariant c.hand_on.ensures.handed
