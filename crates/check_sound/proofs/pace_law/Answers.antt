use Rattle.check_sound.specs.PaceLaw.{PutsHere}
use Rattle.check_sound.proofs.{PacedStep.paced, PacedStep.statics_of, PacedStep.touched, PacedTest.test_paced, PacedTest.given_paced, PacedTest.test_statics}
use Rattle.check_sound.proofs.pace_law.Goals as goal

pub returns-clause-paced : goal.returns-clause-paced
returns-clause-paced c = λ p w s lk h. paced p lk s w h

pub returns-clause-statics : goal.returns-clause-statics
returns-clause-statics c = λ p w s lk. statics_of p lk s w (PutsHere p s) (λ f h. h)

pub returns-clause-touched : goal.returns-clause-touched
returns-clause-touched c = λ p w s lk. touched p lk s w

pub returns-clause-whole : goal.returns-clause-whole
returns-clause-whole c = λ p t b w lk h. test_paced p lk t b w h

pub returns-clause-given : goal.returns-clause-given
returns-clause-given c = λ p t b w g lk e h. given_paced p lk t b w g e h

pub returns-clause-put : goal.returns-clause-put
returns-clause-put c = λ p t b w lk. test_statics p lk t b w
