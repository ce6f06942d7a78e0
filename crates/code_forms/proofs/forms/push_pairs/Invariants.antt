use Rattle.std.proofs.Common.{◌≡◌, ◌++◌, length}
use Rattle.code_forms.specs.Forms as forms
use Rattle.code_forms.proofs.forms.push_pairs.Given as goal

-- the pairs so far and those of what is left
abbrev pub invariant-loop-key : goal.invariant-loop-key
invariant-loop-key l = l.pairs ++ forms.pairs l.rest ≡ l.fn.pairs ++ forms.pairs l.fn.args

abbrev pub decreases-loop-key : goal.decreases-loop-key
decreases-loop-key l = length l.rest
