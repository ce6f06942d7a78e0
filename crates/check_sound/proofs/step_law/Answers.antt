use Rattle.check_sound.proofs.{AllGroups.groups, HeadsStay.heads_stay, WholeStep.stays_typed}
use Rattle.check_sound.proofs.step_law.Goals as goal

pub returns-clause-stays : goal.returns-clause-stays
returns-clause-stays c = λ p w s ty t. stays_typed p ty (groups p ty) w s t

pub returns-clause-heads : goal.returns-clause-heads
returns-clause-heads c = λ p w s o ty t h. heads_stay p ty (groups p ty) w s o t h
