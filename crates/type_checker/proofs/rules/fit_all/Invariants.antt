use Rattle.std.proofs.Common.{◌≡◌, drop}
use Rattle.type_frames.specs.Rules.{fit_all}
use Rattle.type_checker.proofs.rules.fit_all.Given as goal

abbrev pub invariant-loop-i : goal.invariant-loop-i
invariant-loop-i l = fit_all l.program l.xs l.ys ≡ fit_all l.program (drop l.i l.xs) (drop l.i l.ys)
