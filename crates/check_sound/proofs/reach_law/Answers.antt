use Rattle.check_sound.proofs.{AllGroups.groups, Reaching.reached_typed, Reaching.instruction_room, Reaching.result_room, Reaching.native_room}
use Rattle.check_sound.proofs.WholeTest.{opening_typed, test_typed, left_typed, list_typed}
use Rattle.check_sound.proofs.reach_law.Goals as goal

pub returns-clause-reached : goal.returns-clause-reached
returns-clause-reached c = λ p t w v s ty h low high r. reached_typed p ty (groups p ty) t w v s h low high r

pub returns-clause-alone : goal.returns-clause-alone
returns-clause-alone c = λ p w s t k. t.alone k

pub returns-clause-room : goal.returns-clause-room
returns-clause-room c = λ p w s i ty l t k n f. instruction_room p ty l (groups p ty) w s i t k n f

pub returns-clause-returned : goal.returns-clause-returned
returns-clause-returned c = λ p w s x ty l t k n f q. result_room p ty l (groups p ty) w s x t k n f q

pub returns-clause-answered : goal.returns-clause-answered
returns-clause-answered c = λ p w s m x t ty l h k n a e. native_room p ty l (groups p ty) w s m x t h k n a e

pub returns-clause-opened : goal.returns-clause-opened
returns-clause-opened c = λ p ty. opening_typed p ty

pub returns-clause-tested : goal.returns-clause-tested
returns-clause-tested c = λ p t b w ty h low high. test_typed p ty (groups p ty) t b w h low high

pub returns-clause-left : goal.returns-clause-left
returns-clause-left c = λ p t b w g ty h low high q. left_typed p ty (groups p ty) t b w g h low high q

pub returns-clause-each : goal.returns-clause-each
returns-clause-each c = λ p l w gs ty h a q. list_typed p ty (groups p ty) l w gs h a q
