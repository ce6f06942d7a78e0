use Rattle.std.proofs.Common.{◌≡◌, ◌++◌, take, drop, map, length}
use Rattle.type_frames.specs.Rules.{turned_one}
use Rattle.type_checker.proofs.after.turn_each.Given as goal

abbrev pub invariant-loop-i : goal.invariant-loop-i
invariant-loop-i l = (take l.i l.xs.items ++ map (turned_one l.from l.to) (drop l.i l.xs.items) ≡ map (turned_one l.from l.to) l.initial.xs.items) × (length l.xs.items ≡ length l.initial.xs.items)
