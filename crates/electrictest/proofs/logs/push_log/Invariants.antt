use Rattle.std.proofs.Common.{◌≡◌, [], ◌++◌, ◌∷◌, take, codes}
use Rattle.std.specs.List.{flat_map}
use Rattle.run_core.specs.Run.{told}
use Rattle.electrictest.specs.Logs.{event_line}
use Rattle.electrictest.proofs.logs.push_log.Given as goal

-- the head, and the lines of the events so far
abbrev pub invariant-loop-event : goal.invariant-loop-event
invariant-loop-event l = l.out ≡ (l.fn.out ++ (codes "log" ++ 10 ∷ [])) ++ flat_map (λ e. event_line (told e)) (take l.event-index l.events)
