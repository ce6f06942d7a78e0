use Rattle.std.proofs.Common.{◌≡◌, length}
use Rattle.suite_load.specs.ContentForm.{content_of}
use Rattle.suite_load.proofs.ContentLaws.{with_front}
use Rattle.suite_load.proofs.content.content_of.Given as goal

-- the units so far and those of the rest are those of the text
abbrev pub invariant-loop-rest : goal.invariant-loop-rest
invariant-loop-rest l = with_front l.content (content_of l.rest) ≡ content_of l.text

abbrev pub decreases-loop-rest : goal.decreases-loop-rest
decreases-loop-rest l = length l.rest
