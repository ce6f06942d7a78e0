use Rattle.std.proofs.Common.{◌≡◌, ◌++◌, drop}
use Rattle.code_forms.specs.Forms as forms
use Rattle.code_forms.proofs.forms.places.Given as goal

-- the places so far and those of what is left
abbrev pub invariant-loop-arg : goal.invariant-loop-arg
invariant-loop-arg l = l.places ++ forms.places (drop l.arg-index l.args) ≡ forms.places l.args
