use Rattle.std.proofs.Common.{◌≡◌, ◌++◌, replicate}
use Rattle.type_checker.proofs.build.push_brackets.Given as goal

abbrev pub invariant-loop-done : goal.invariant-loop-done
invariant-loop-done l = l.text ≡ l.initial.text ++ replicate l.done 91
